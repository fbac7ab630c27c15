-- What a change of one row changes of all.
use Rattle.std.proofs.Common.{◌≡◌, ℕ, ◌==◌, ◌&&◌, Bool, true, false, cond, List, [], Option, Some, None, refl, sym, ap, ◌∙◌, arith}
use Rattle.std.specs.Option.{unwrap_or}
use Rattle.std.specs.Ordering.{nat_cmp}
use Rattle.std.specs.BTreeMap.{BTreeMap, is_at, get}
use Rattle.std.proofs.lemmas.Bool.{eqb-true}
use Rattle.std.proofs.lemmas.Bool.Decides.{nat_tests}
use Rattle.tg_rights.specs.RightSet.{RightSet, union}
use Rattle.tg_model.specs.Graph.{with_rights}
use Rattle.tg_model.specs.Plain.{Edges, rights_in_row}

row_chosen : (v : Bool) (o p q : Option Edges) (r w : Edges) (b to : ℕ) (label : RightSet) → q ≡ cond v (Some w) p → p ≡ cond v None o → (v ≡ true → r ≡ unwrap_or o []) →
    ((y : ℕ) → rights_in_row w y ≡ cond (y == to) (union (rights_in_row r y) label) (rights_in_row r y)) →
    rights_in_row (unwrap_or q []) b ≡ cond (v && (b == to)) (union (rights_in_row (unwrap_or o []) b) label) (rights_in_row (unwrap_or o []) b)
row_chosen true o p q r w b to label put out was changes =
    ap (λ (x : Option Edges). rights_in_row (unwrap_or x []) b) put ∙ changes b
    ∙ ap (λ (x : Edges). cond (b == to) (union (rights_in_row x b) label) (rights_in_row x b)) (was refl)
row_chosen false o p q r w b to label put out was changes = ap (λ (x : Option Edges). rights_in_row (unwrap_or x []) b) (put ∙ out)

-- a row was taken out, was changed, and was put in again
pub row_changed : (m n k : BTreeMap ℕ Edges) (from to : ℕ) (label : RightSet) (r w : Edges) → ((q : ℕ) → get nat_cmp n q ≡ cond (is_at (nat_cmp from) q) None (get nat_cmp m q)) →
    ((q : ℕ) → get nat_cmp k q ≡ cond (is_at (nat_cmp from) q) (Some w) (get nat_cmp n q)) → r ≡ unwrap_or (get nat_cmp m from) [] →
    ((y : ℕ) → rights_in_row w y ≡ cond (y == to) (union (rights_in_row r y) label) (rights_in_row r y)) →
    (a b : ℕ) → rights_in_row (unwrap_or (get nat_cmp k a) []) b ≡ with_rights (λ x y. rights_in_row (unwrap_or (get nat_cmp m x) []) y) from to label a b
row_changed m n k from to label r w out put was changes a b =
    let test : is_at (nat_cmp from) a ≡ (a == from) = grind (arith, nat_tests) in
    row_chosen (a == from) (get nat_cmp m a) (get nat_cmp n a) (get nat_cmp k a) r w b to label
    (put a ∙ ap (λ (v : Bool). cond v (Some w) (get nat_cmp n a)) test)
    (out a ∙ ap (λ (v : Bool). cond v None (get nat_cmp m a)) test)
    (λ same. was ∙ ap (λ (x : ℕ). unwrap_or (get nat_cmp m x) []) (sym (eqb-true a from same))) changes
