-- The cells that were won, as a helper notes them.
use Rattle.std.proofs.Common.{◌≡◌, ℕ, ◌/◌, ◌%◌, ◌<◌, List, [], length, get_or, map, sym, ap, ◌∙◌, arith}
use Rattle.std.specs.List.{All}
use Rattle.std.proofs.lemmas.List.{get_or-map}
use Rattle.tg_word.specs.declared.Place.{Place}
use Rattle.tg_word.specs.Word.{IsPlace, place_in}
use Rattle.tg_evac.specs.Claims.{win_at}
use Rattle.tg_parallel.specs.Parts.{note_of, win_of, wins_of}
use Rattle.tg_parallel.specs.Seats.{pair_at}
use Rattle.tg_parallel.proofs.Wins.{place_back}

module _ (won : List (ℕ × Place)) (places : All (λ q. IsPlace q.1 × (q.1.space < 2)) won) (k d : ℕ) (low : k < length won) where
  abbrev pair : ℕ × Place
  pair = pair_at won k

  inside : IsPlace pair.1 × (pair.1.space < 2)
  inside = places k (pair_at [] 0) low

  note_is : get_or (map note_of won) k d ≡ note_of pair
  note_is = get_or-map note_of won k (pair_at [] 0) d low

  win_is : win_at (wins_of won) k ≡ win_of pair
  win_is = get_or-map win_of won k (pair_at [] 0) (win_at [] 0) low

  pub note_cell : get_or (map note_of won) k d / 2 ≡ (win_at (wins_of won) k).cell
  note_cell = rw (note_is, win_is) (let two = inside.1 in omega arith)

  pub note_space : get_or (map note_of won) k d % 2 ≡ (place_in (win_at (wins_of won) k).word).space
  note_space =
      let two = inside.1 in
      let rest : note_of pair % 2 ≡ pair.1.space = omega arith in
      rw (note_is, win_is) (rest ∙ sym (ap (λ (p : Place). p.space) (place_back pair.1 inside.0)))
