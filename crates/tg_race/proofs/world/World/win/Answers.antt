use Rattle.std.proofs.Common.{ap, List, ℕ, ◌∙◌}
use Rattle.std.proofs.lemmas.Result.{MatchResult-from_err}
use Rattle.tg_word.specs.declared.Place.{Place}
use Rattle.tg_race.specs.declared.event.Event.TheVariants.{Win}
use Rattle.tg_race.proofs.Courses.{helper_inside, cell_inside, wins_inside, wins_in_range, put_back, kept_back, kept_after, win_is}
use Rattle.tg_race.proofs.world.World.win.Goals as goal

pub index_mut-requires : goal.index_mut-requires
index_mut-requires c = helper_inside _ _ c.args.helper (Win c.args.cell c.args.place) _ c.self.view_is c.self.inside.records.ok.0 c.requires

pub invariant_of-self : goal.invariant_of-self
invariant_of-self c = kept_back _ _ c.args.helper c.index_mut.result.now _ c.self.view_is c.index_mut.ensures.value (ap (λ (l : List (ℕ × Place)). record c.index_mut.result.now { won = l }) c.in_err-push_back.ensures.items) c.self.invariant

pub returns-in_err-push_back : goal.returns-in_err-push_back
returns-in_err-push_back c = MatchResult-from_err c.from_residual.result _ _ c.from_residual.ensures.0
    (λ _. put_back _ c.args.helper c.index_mut.result.now _ c.index_mut.ensures.value (ap (λ (l : List (ℕ × Place)). record c.index_mut.result.now { won = l }) c.in_err-push_back.ensures.items) ∙ c.self.view_is)

pub word_to-requires : goal.word_to-requires
word_to-requires c = wins_in_range c.args.self.now c.args.helper c.args.cell c.args.place c.requires

pub index_mut-requires-2 : goal.index_mut-requires-2
index_mut-requires-2 c = cell_inside _ _ c.args.cell _ c.self.view_is c.self.inside.words.ok.0 c.self.invariant.1 (wins_inside c.args.self.now c.args.helper c.args.cell c.args.place c.requires)

pub invariant_of-self-2 : goal.invariant_of-self-2
invariant_of-self-2 c = (
  c.self.invariant.0,
  kept_after _ c.args.self.now _ c.args.helper (Win c.args.cell c.args.place) c.self.view_is c.self.invariant.1 c.requires
      (win_is _ _ c.args.helper c.args.cell c.args.place c.word_to.result c.index_mut.result.now c.push_back.new.self c.self.view_is c.requires c.word_to.ensures c.index_mut.ensures.value c.in_ok-push_back.ensures.items),
)

pub returns : goal.returns
returns c =
    win_is _ _ c.args.helper c.args.cell c.args.place c.word_to.result c.index_mut.result.now c.push_back.new.self c.self.view_is c.requires c.word_to.ensures c.index_mut.ensures.value c.in_ok-push_back.ensures.items
