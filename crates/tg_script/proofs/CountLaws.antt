-- A set has one count.
use Rattle.std.proofs.Common.{◌≡◌, ℕ, ◌≤◌, true, eqb, arith}
use Rattle.std.specs.Cmp.{nat_eq_equiv}
use Rattle.std.specs.List.{Contains, list_any}
use Rattle.std.proofs.lemmas.Bool.Decides.{Decides-eqb}
use Rattle.std.proofs.lemmas.Map.Made.{length-le_from_is_member}
use Rattle.std.proofs.lemmas.Map.Views.{Contains-from_any, list_any-from_Contains}
use Rattle.tg_store.specs.Store.{IsCountOf}

count_le : (which : ℕ → Type 0) (m n : ℕ) → IsCountOf which m → IsCountOf which n → m ≤ n
count_le which m n a b =
    let held : (q : ℕ) → list_any (eqb q) a.each ≡ true → list_any (eqb q) b.each ≡ true = λ q found.
    let in_a : Contains a.each q = Contains-from_any {eq = eqb} (λ x y t. (Decides-eqb x y).0 t) q a.each found in
    list_any-from_Contains {eq = eqb} nat_eq_equiv q b.each ((b.exactly q).1 ((a.exactly q).0 in_a)) in
    let le = length-le_from_is_member {eq = eqb} nat_eq_equiv a.each b.each a.once held in
    omega (arith, le, a.number, b.number)

pub count_same : (which : ℕ → Type 0) (m n : ℕ) → IsCountOf which m → IsCountOf which n → m ≡ n
count_same which m n a b = omega (arith, count_le which m n a b, count_le which n m b a)
