-- What the first line feed among the bytes at the front says of the line before it.
use Rattle.std.proofs.Common.{◌≡◌, ◌≢◌, ℕ, ◌+◌, ◌<◌, ◌≤◌, List, ◌∷◌, ◌++◌, length, take, drop, get_or, Option, None, Some, sym, ap, ◌∙◌, arith}
use Rattle.std.specs.Prelude.{IfSome}
use Rattle.std.proofs.lemmas.List.{drop_more, get_or-take, length-take-le, take-append-drop, take-append-le, take-take}
use Rattle.std.proofs.lemmas.List.Elements.{All-from_get_or, recursion_from_All}
use Rattle.std.proofs.lemmas.Bool.{eqb-true, eq-eqb}
use Rattle.memchr.specs.Find.{IsFirstByte, is_byte}
use Rattle.tg_text.specs.Fetching.{EndsLineAt, IsOneLine}

module _ (bytes : List ℕ) (near at : ℕ) (few : near ≤ length bytes) (h : IsFirstByte (is_byte 10) (take near bytes) (Some at)) where
  inside : at < near
  inside = omega (arith, h.0.high, length-take-le near bytes few)

  one_line : IsOneLine (take at bytes)
  one_line =
      let held : at < length bytes = omega (arith, inside, few) in
      recursion_from_All (λ b. b ≢ 10) (take at bytes) (All-from_get_or (λ b. b ≢ 10) (take at bytes) 0 (λ i l e.
      let below : i < at = omega (arith, l, length-take-le at bytes (omega (arith, held))) in
      h.0.before i (omega arith) below (eq-eqb _ 10 (get_or-take near bytes i 0 (omega (arith, below, inside)) ∙ sym (get_or-take at bytes i 0 below) ∙ e))))

  feed : get_or bytes at 0 ≡ 10
  feed = sym (get_or-take near bytes at 0 inside) ∙ eqb-true _ 10 h.1

  ends_line : EndsLineAt bytes at
  ends_line =
      (one_line, sym (take-append-drop at bytes) ∙ ap (λ xs. take at bytes ++ xs) (drop_more bytes at 0 (omega (arith, inside, few)) ∙ ap (λ b. b ∷ drop (at + 1) bytes) feed))

pub ends_near : (bytes : List ℕ) (near : ℕ) (r : Option ℕ) → near ≤ length bytes → IsFirstByte (is_byte 10) (take near bytes) r →
    IfSome r (λ at. (at < near) × (near ≤ length bytes) × EndsLineAt bytes at)
ends_near bytes near None few h = tt
ends_near bytes near (Some at) few h = (inside bytes near at few h, few, ends_line bytes near at few h)

-- what is before a place near the front, where the bytes near the front were copied over others
pub kept_near : (bytes copied others : List ℕ) (near at : ℕ) → at < near → near ≤ length bytes → copied ≡ take near bytes → take at (copied ++ others) ≡ take at bytes
kept_near bytes copied others near at below few is =
    let long : length copied ≡ near = ap length is ∙ length-take-le near bytes few in
    take-append-le at copied others (omega (arith, long)) ∙ ap (take at) is ∙ take-take at near bytes (omega (arith, below))
