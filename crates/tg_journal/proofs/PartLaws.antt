-- What a journal holds of all that was made.
use Rattle.std.proofs.Common.{◌≡◌, ℕ, ◌+◌, ◌-◌, ◌≤◌, List, ◌++◌, length, length-drop, take, take_all, drop, sym, ap, ◌∙◌, arith}
use Rattle.std.proofs.lemmas.List.{drop-drop}
use Rattle.std.proofs.Math.Seq.{drop-append-add}

-- what is after a place of the later list is after it in the whole
pub drop-behind : {X : Type 0} (past items : List X) (base start : ℕ) → base ≡ length past → base ≤ start → drop (start - base) items ≡ drop start (past ++ items)
drop-behind past items base start is le =
    sym (drop-append-add past items (start - base)) ∙ ap (λ (n : ℕ). drop n (past ++ items)) (let e : length past + (start - base) ≡ start = omega (arith, is, le) in e)

-- what is held after so many is taken whole
all_behind : {X : Type 0} (held : List X) (passed : ℕ) → take (length held - passed) (drop passed held) ≡ drop passed held
all_behind held passed = take_all (length held - passed) (drop passed held) (omega (arith, length-drop passed held))

-- what a part holds from a place on is all that was made from there on
pub fed_part : {X : Type 0} (entries held : List X) (first told at : ℕ) → told ≡ first → held ≡ drop first entries → first ≤ at → take (length held - (at - told)) (drop (at - told) held) ≡ drop at entries
fed_part entries held first told at same is low =
    let sum : first + (at - told) ≡ at = omega (arith, same, low) in
    all_behind held (at - told) ∙ ap (λ es. drop (at - told) es) is ∙ drop-drop (at - told) first entries ∙ ap (λ n. drop n entries) sum
