use Rattle.std.proofs.Common.{◌∙◌, ◌++◌, ◌∷◌, [], ℕ, List, refl, ap}
use Rattle.std.proofs.lemmas.List.{get_or_read}
use Rattle.std.proofs.lemmas.Result.{MatchResult-from_err}
use Rattle.tg_word.specs.declared.Place.{Place}
use Rattle.tg_race.specs.Words.{place_of}
use Rattle.tg_race.specs.declared.event.Event.TheVariants.{Lose}
use Rattle.tg_race.proofs.Courses.{helper_inside, cell_inside, loses_inside, put_back, kept_back, kept_after, lose_is}
use Rattle.tg_race.proofs.world.World.lose.Goals as goal

pub index-requires : goal.index-requires
index-requires c = cell_inside _ _ c.args.cell _ c.self.view_is c.self.inside.words.ok.0 c.self.invariant.1 (loses_inside c.args.self.now c.args.helper c.args.cell c.requires)

pub index_mut-requires : goal.index_mut-requires
index_mut-requires c = helper_inside _ _ c.args.helper (Lose c.args.cell) _ c.self.view_is c.self.inside.records.ok.0 c.requires

pub invariant_of-self : goal.invariant_of-self
invariant_of-self c = kept_back _ _ c.args.helper c.index_mut.result.now _ c.self.view_is c.index_mut.ensures.value (ap (λ (l : List (ℕ × Place)). record c.index_mut.result.now { seen = l }) c.in_err-push_back.ensures.items) c.self.invariant

pub returns-in_err-push_back : goal.returns-in_err-push_back
returns-in_err-push_back c = MatchResult-from_err c.from_residual.result _ _ c.from_residual.ensures.0
    (λ _. put_back _ c.args.helper c.index_mut.result.now _ c.index_mut.ensures.value (ap (λ (l : List (ℕ × Place)). record c.index_mut.result.now { seen = l }) c.in_err-push_back.ensures.items) ∙ c.self.view_is)

pub invariant_of-self-2 : goal.invariant_of-self-2
invariant_of-self-2 c =
    let inside = cell_inside _ _ c.args.cell _ c.self.view_is refl c.self.invariant.1 (loses_inside c.args.self.now c.args.helper c.args.cell c.requires) in
    let seen = c.in_ok-push_back.ensures.items ∙ ap (λ (p : Place). c.index_mut.result.now.seen ++ (c.args.cell, p) ∷ []) (c.place_in-place.ensures ∙ ap place_of (get_or_read c.self.inside.words.items _ _ inside c.index.ensures 0)) in (
      c.self.invariant.0,
      kept_after _ c.args.self.now _ c.args.helper (Lose c.args.cell) c.self.view_is c.self.invariant.1 c.requires (lose_is _ _ c.args.helper c.args.cell c.index_mut.result.now _ c.self.view_is c.requires c.index_mut.ensures.value seen),
    )

pub returns : goal.returns
returns c =
    let inside = cell_inside _ _ c.args.cell _ c.self.view_is refl c.self.invariant.1 (loses_inside c.args.self.now c.args.helper c.args.cell c.requires) in
    let seen = c.in_ok-push_back.ensures.items ∙ ap (λ (p : Place). c.index_mut.result.now.seen ++ (c.args.cell, p) ∷ []) (c.place_in-place.ensures ∙ ap place_of (get_or_read c.self.inside.words.items _ _ inside c.index.ensures 0)) in
    lose_is _ _ c.args.helper c.args.cell c.index_mut.result.now _ c.self.view_is c.requires c.index_mut.ensures.value seen
