-- What one record has won at a closed table, as the pairs of a collection.
use Rattle.std.proofs.Common.{◌≡◌, ℕ, ◌<◌, ◌&&◌, List, [], ◌∷◌, IsTrue, length, get_or, refl, sym, ap, ◌∙◌, eq-eqb}
use Rattle.std.specs.List.{Contains, IsDistinct}
use Rattle.std.proofs.Common.{arith, eqb}
use Rattle.std.proofs.lemmas.Bool.Decides.{Decides-eqb}
use Rattle.std.proofs.lemmas.List.{get_or-map, length-map}
use Rattle.std.proofs.lemmas.Map.Made.{IsDistinct-from_AllPairs}
use Rattle.tg_rights.specs.RightSet.{no_rights}
use Rattle.tg_word.specs.declared.Place.{Place}
use Rattle.tg_word.specs.Word.{IsPlace, link_to, place_in}
use Rattle.tg_word.proofs.Packing.{place_in-word_at}
use Rattle.tg_space.specs.SpaceList.{SpaceList}
use Rattle.tg_space.specs.declared.kind.Kind.{Kind}
use Rattle.tg_space.specs.declared.root.Root.{Root}
use Rattle.tg_race.specs.declared.record.Counts.{Counts}
use Rattle.tg_race.specs.declared.record.Record.{Record}
use Rattle.tg_race.specs.Board.{IsClosedTable}
use Rattle.tg_race.specs.Race.{Race}
use Rattle.tg_race.specs.Words.{has_pair, same_pair, place_word}
use Rattle.tg_race.proofs.Closed.{cells_differ}
use Rattle.tg_race.proofs.Standing.{same_place_self, won_place, won_stands}
use Rattle.tg_evac.specs.Win.{Win}
use Rattle.tg_evac.specs.Claims.{AreTraced, cells_won}
use Rattle.tg_parallel.specs.Parts.{AreEarned, roots_in, roots_of_chunk, win_of, wins_of}
use Rattle.tg_parallel.proofs.Lists.{any_has, chunk_found, flat_found}
use Rattle.tg_parallel.proofs.Traces.{traced_wider}

pub link_is : (p : Place) → place_word p ≡ link_to p
unfolding place_word
link_is p = refl

pub place_back : (p : Place) → IsPlace p → place_in (link_to p) ≡ p
place_back p inside = place_in-word_at no_rights p inside

-- a root of a claimed chunk is a root
pub narrow : (roots : List Root) (chunks : List ℕ) (r : Root) → Contains (roots_in roots chunks) r → Contains roots r
narrow roots chunks r held = let found = flat_found (roots_of_chunk roots) chunks r held in chunk_found roots found.0 r found.2

pub traced_all : (kind : Kind) (h : SpaceList) (roots : List Root) (done : Record) → AreEarned kind h roots done → AreTraced kind h roots (wins_of done.won)
traced_all kind h roots done earned = traced_wider kind h (roots_in roots done.chunks) roots (narrow roots done.chunks) (wins_of done.won) earned

module _ (k : Counts) (words : List ℕ) (done : Record) (closed : IsClosedTable k words done) where
  abbrev race : Race
  race = record { next_chunk = closed.next_chunk; next_aged = closed.next_aged; next_old = closed.next_old; words = words; records = done ∷ [] }

  pub won_has : (q : ℕ × Place) → Contains done.won q → IsTrue (has_pair q.0 q.1 done.won)
  won_has q held = any_has (same_pair q.0 q.1) done.won q held (λ i. eq-eqb q.0 q.0 refl i && same_place_self q.1 i)

  pub won_word : (q : ℕ × Place) → Contains done.won q → get_or words q.0 0 ≡ link_to q.1
  won_word q held = won_stands k race closed.rule 0 done refl q.0 q.1 (won_has q held) ∙ link_is q.1

  pub won_inside : (q : ℕ × Place) → Contains done.won q → IsPlace q.1
  won_inside q held = won_place k race closed.rule 0 done refl q.0 q.1 (won_has q held)

  -- no cell was won twice
  none : ℕ × Place
  none = (0, record { space = 0; block = 0; cell = 0 })

  cell_is : (i d : ℕ) → i < length done.won → get_or (cells_won (wins_of done.won)) i d ≡ (get_or done.won i none).0
  cell_is i d low =
      get_or-map (λ (w : Win). w.cell) (wins_of done.won) i (win_of none) d (rw length-map low)
      ∙ ap (λ (w : Win). w.cell) (get_or-map win_of done.won i none (win_of none) low)

  pub cells_long : length (cells_won (wins_of done.won)) ≡ length done.won
  cells_long = length-map (wins_of done.won) (λ (w : Win). w.cell) ∙ length-map done.won win_of

  pub cells_distinct : IsDistinct eqb (cells_won (wins_of done.won))
  cells_distinct = IsDistinct-from_AllPairs {eq = eqb} Decides-eqb (cells_won (wins_of done.won)) (λ i j d lt low e.
      let inside = cells_long in
      cells_differ k words done closed i j none lt (omega arith) (sym (cell_is i d (omega arith)) ∙ e ∙ cell_is j d (omega arith)))
