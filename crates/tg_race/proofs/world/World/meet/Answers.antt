use Rattle.std.proofs.Common.{rules, ◌≡◌, ◌∙◌, List, get_or, ap, refl, sym, set, subst}
use Rattle.tg_race.specs.declared.record.Record.{Record}
use Rattle.tg_race.specs.declared.event.Event.TheVariants.{Meet}
use Rattle.tg_race.specs.Inner.Room.{FitOne}
use Rattle.tg_race.specs.Course.{Course, KeepsRule, record_at}
use Rattle.tg_race.proofs.Courses.{keeps, same_record, is_alive, met_alive, met_mine, met_theirs, met_course, record_inside, helper_inside}
use Rattle.tg_race.proofs.world.World.meet.Goals as goal

pub index-requires : goal.index-requires
index-requires c = helper_inside _ _ c.args.helper (Meet c.args.other) _ c.self.view_is c.self.inside.records.ok.0 c.requires

pub index-requires-2 : goal.index-requires-2
index-requires-2 c = record_inside _ _ c.args.other _ c.self.view_is c.self.inside.records.ok.0 (met_alive c.args.self.now c.args.helper c.args.other c.requires)

pub returns-then-not-fits_one : goal.returns-then-not-fits_one
returns-then-not-fits_one c = refl

pub index_mut-requires : goal.index_mut-requires
index_mut-requires c = record_inside _ _ c.args.other _ c.self.view_is c.self.inside.records.ok.0 (met_alive c.args.self.now c.args.helper c.args.other c.requires)

pub index_mut-requires-2 : goal.index_mut-requires-2
index_mut-requires-2 c = helper_inside _ _ c.args.helper (Meet c.args.other) _ c.self.view_is c.self.inside.records.ok.0 c.requires

pub take_in-requires : goal.take_in-requires
take_in-requires c =
    let now : Course = c.args.self.now in let h = c.requires in let helper = c.args.helper in let other = c.args.other in
    let records = ap (λ (x : Course). x.race.records) c.self.view_is in
    let room : FitOne c.index.result.now c.index-2.result.now = search rules in
    let a : c.index.result.now ≡ record_at now.race helper = same_record now.race.records helper c.index.result.now (is_alive now helper (Meet other) h) (c.index.ensures ∙ ap (λ (l : List Record). get_or l helper c.index.result.now) records) in
    let b : c.index-2.result.now ≡ record_at now.race other = met_theirs now helper other c.index-2.result.now h (c.index-2.ensures ∙ ap (λ (l : List Record). get_or l other c.index-2.result.now) records) in
    let mine = met_mine now helper other c.index_mut-2.result.now c.replace-it.new.dest h (c.index_mut-2.ensures.value ∙ ap (λ (l : List Record). get_or (set l other c.replace-it.new.dest) helper c.index_mut-2.result.now) records) in
    let theirs = c.replace-it.ensures.value ∙ met_theirs now helper other c.index_mut.result.now h (c.index_mut.ensures.value ∙ ap (λ (l : List Record). get_or l other c.index_mut.result.now) records) in
    subst (λ (x : Record). FitOne x c.replace-it.result) (a ∙ sym mine) (subst (λ (y : Record). FitOne c.index.result.now y) (b ∙ sym theirs) room)

pub returns : goal.returns
returns c =
    let now : Course = c.args.self.now in let h = c.requires in let helper = c.args.helper in let other = c.args.other in
    let records = ap (λ (x : Course). x.race.records) c.self.view_is in
    let mine = met_mine now helper other c.index_mut-2.result.now c.replace-it.new.dest h (c.index_mut-2.ensures.value ∙ ap (λ (l : List Record). get_or (set l other c.replace-it.new.dest) helper c.index_mut-2.result.now) records) in
    let theirs = c.replace-it.ensures.value ∙ met_theirs now helper other c.index_mut.result.now h (c.index_mut.ensures.value ∙ ap (λ (l : List Record). get_or l other c.index_mut.result.now) records) in
    met_course _ now helper other _ _ c.replace-it.new.dest c.take_in.new.self c.self.view_is h mine theirs (c.replace-it.ensures.after ∙ c.new-spent.ensures) c.take_in.ensures

pub invariant_of-self : goal.invariant_of-self
invariant_of-self c =
    (c.self.invariant.0, subst KeepsRule (sym (returns c)) (keeps c.args.self.now c.args.helper (Meet c.args.other) (subst KeepsRule c.self.view_is c.self.invariant.1) c.requires))
