use Rattle.std.proofs.Common.{◌∙◌, ◌++◌, ◌∷◌, [], List, length, get_or, set, sym, subst, ap}
use Rattle.std.proofs.lemmas.Result.{MatchResult-from_err}
use Rattle.tg_race.specs.declared.record.Record.{Record}
use Rattle.tg_race.specs.declared.event.Event.TheVariants.{Part}
use Rattle.tg_race.specs.Race.{empty, less_one}
use Rattle.tg_race.specs.Course.{KeepsRule}
use Rattle.tg_race.proofs.Courses.{helper_inside, same_records, live_share, kept_after, part_is}
use Rattle.tg_race.proofs.world.World.part.Goals as goal

pub invariant_of-self : goal.invariant_of-self
invariant_of-self c = (c.self.invariant.0, subst KeepsRule (sym (same_records _ _ c.reserve.ensures.items)) c.self.invariant.1)

pub returns-in_err-reserve : goal.returns-in_err-reserve
returns-in_err-reserve c = MatchResult-from_err c.from_residual.result _ _ c.from_residual.ensures.0 (λ _. same_records _ _ c.reserve.ensures.items ∙ c.self.view_is)

pub index_mut-requires : goal.index_mut-requires
index_mut-requires c =
    helper_inside _ _ c.args.helper Part _ c.self.view_is (c.reserve.new.self.ok.0 ∙ ap (λ (l : List Record). length l) c.reserve.ensures.items) c.requires

pub overflow_sub-index_mut : goal.overflow_sub-index_mut
overflow_sub-index_mut c =
    let v : Record = c.index_mut.result.now in
    live_share _ _ c.args.helper Part v c.self.view_is c.requires (c.index_mut.ensures.value ∙ ap (λ (l : List Record). get_or l c.args.helper v) c.reserve.ensures.items)

pub invariant_of-self-2 : goal.invariant_of-self-2
invariant_of-self-2 c =
    let v : Record = c.index_mut.result.now in
    let here = c.index_mut.ensures.value ∙ ap (λ (l : List Record). get_or l c.args.helper v) c.reserve.ensures.items in
    let is = c.push_reserved.ensures.items
    ∙ (ap (λ (w : Record). set c.reserve.new.self.items c.args.helper (less_one v) ++ w ∷ []) c.new.ensures ∙ ap (λ (l : List Record). set l c.args.helper (less_one v) ++ empty 1 ∷ []) c.reserve.ensures.items) in
    (c.self.invariant.0, kept_after _ c.args.self.now _ c.args.helper Part c.self.view_is c.self.invariant.1 c.requires (part_is _ _ c.args.helper v _ c.self.view_is c.requires here is))

pub returns : goal.returns
returns c =
    let v : Record = c.index_mut.result.now in
    let here = c.index_mut.ensures.value ∙ ap (λ (l : List Record). get_or l c.args.helper v) c.reserve.ensures.items in
    let is = c.push_reserved.ensures.items
    ∙ (ap (λ (w : Record). set c.reserve.new.self.items c.args.helper (less_one v) ++ w ∷ []) c.new.ensures ∙ ap (λ (l : List Record). set l c.args.helper (less_one v) ++ empty 1 ∷ []) c.reserve.ensures.items) in
    part_is _ _ c.args.helper v _ c.self.view_is c.requires here is
