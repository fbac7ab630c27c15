-- Lists whose elements are written by texts, one by one, and graphs with edges more.
use Rattle.std.proofs.Common.{◌≡◌, ◌∙◌, ℕ, ◌+◌, ◌<◌, ◌≤◌, ◌==◌, ◌&&◌, Bool, true, false, cond, List, [], ◌∷◌, ◌++◌, refl, sym, ap, subst, map, take, length, get_or}
use Rattle.std.specs.List.{All, AllZip}
use Rattle.std.proofs.lemmas.List.{take_all, take_more}
use Rattle.tg_rights.specs.RightSet.{RightSet, union}
use Rattle.tg_rights.proofs.RightLaws.{union_assoc, union_none}
use Rattle.tg_model.specs.declared.edge.Edge.{Edge}
use Rattle.tg_model.specs.Graph.{ProtectionGraph}
use Rattle.tg_model.specs.Opened.{label_in}
use Rattle.tg_model.specs.Picture.{Shown, IsPictureOf, with_edge}
use Rattle.tg_model.proofs.LabelLaws.{label_in-push}
use Rattle.tg_could.specs.Reached.{JoinsMade, with_edges}

-- ---- element by element

-- one element more in each list
both_more : {X Y : Type 0} (R : X → Y → Type 0) (xs : List X) (ys : List Y) (x : X) (y : Y) → AllZip R xs ys → R x y → AllZip R (xs ++ x ∷ []) (ys ++ y ∷ [])
both_more R [] [] x y all here = (here, tt)
both_more R [] (b ∷ ys) x y all here = absurd all
both_more R (a ∷ xs) [] x y all here = absurd all
both_more R (a ∷ xs) (b ∷ ys) x y all here = (all.0, both_more R xs ys x y (all.1) here)

-- the next element of a list and what was found for it
pub zip_more : {X Y : Type 0} (R : X → Y → Type 0) (xs : List X) (ys zs : List Y) (i : ℕ) (d : X) (y : Y) → i < length xs → zs ≡ ys ++ y ∷ [] →
    AllZip R (take i xs) ys → R (get_or xs i d) y → AllZip R (take (i + 1) xs) zs
zip_more {X} {Y} R xs ys zs i d y inside grown before here =
    subst (λ (ts : List X). AllZip R ts zs) (sym (take_more xs i d inside))
    (subst (AllZip R (take i xs ++ get_or xs i d ∷ [])) (sym grown) (both_more R (take i xs) ys (get_or xs i d) y before here))

-- after the last one all are found
pub zip_whole : {X Y : Type 0} (R : X → Y → Type 0) (xs : List X) (ys : List Y) (i : ℕ) → length xs ≤ i → AllZip R (take i xs) ys → AllZip R xs ys
zip_whole {X} R xs ys i end all = subst (λ (ts : List X). AllZip R ts ys) (take_all i xs end) all

-- what holds of the elements' views holds of the list of these
pub zip_map : {X Y Z : Type 0} (R : Z → Y → Type 0) (f : X → Z) (xs : List X) (ys : List Y) → AllZip (λ x y. R (f x) y) xs ys → AllZip R (map f xs) ys
zip_map R f [] [] all = all
zip_map R f [] (b ∷ ys) all = absurd all
zip_map R f (a ∷ xs) [] all = absurd all
zip_map R f (a ∷ xs) (b ∷ ys) all = (all.0, zip_map R f xs ys (all.1))

-- ---- edges more

-- no edge more is the same graph
pub with_none : (g : ProtectionGraph) → with_edges g [] ≡ g
with_none g = λ i. record g { label = λ a b. union_none (g.label a b) i }

-- the label where one more edge was put among the others
label_more : (t : Bool) (own others rights : RightSet) → cond t (union (union own others) rights) (union own others) ≡ union own (cond t (union others rights) others)
label_more true own others rights = union_assoc own others rights
label_more false own others rights = refl

-- one edge more after the others
with_more : (g : ProtectionGraph) (es : List Edge) (e : Edge) → with_edge (with_edges g es) e.from e.to e.label ≡ with_edges g (es ++ e ∷ [])
with_more g es e =
    let labels : (a b : ℕ) → cond ((a == e.from) && (b == e.to)) (union (union (g.label a b) (label_in es a b)) e.label) (union (g.label a b) (label_in es a b)) ≡ union (g.label a b) (label_in (es ++ e ∷ []) a b) =
    λ a b. label_more ((a == e.from) && (b == e.to)) (g.label a b) (label_in es a b) e.label ∙ sym (ap (union (g.label a b)) (label_in-push es e a b)) in
    λ i. record g { label = λ a b. labels a b i }

-- a picture with the next edge too
pub supposed_more : (p new : Shown) (g : ProtectionGraph) (es : List Edge) (i : ℕ) (e : Edge) → i < length es → e ≡ get_or es i e → All (JoinsMade g.made) es →
    ((h : ProtectionGraph) → IsPictureOf p h → e.from < h.made → e.to < h.made → IsPictureOf new (with_edge h e.from e.to e.label)) →
    IsPictureOf p (with_edges g (take i es)) → IsPictureOf new (with_edges g (take (i + 1) es))
supposed_more p new g es i e inside is made with before =
    let ends : JoinsMade g.made e = subst (JoinsMade g.made) (sym is) (made i e inside) in
    let more : take i es ++ e ∷ [] ≡ take (i + 1) es = ap (λ (z : Edge). take i es ++ z ∷ []) is ∙ sym (take_more es i e inside) in
    subst (λ (zs : List Edge). IsPictureOf new (with_edges g zs)) more
    (subst (IsPictureOf new) (with_more g (take i es) e) (with (with_edges g (take i es)) before (ends.0) (ends.1)))

-- a picture with all edges
pub supposed_all : (p : Shown) (g : ProtectionGraph) (es : List Edge) (i : ℕ) → length es ≤ i → IsPictureOf p (with_edges g (take i es)) → IsPictureOf p (with_edges g es)
supposed_all p g es i end picture = subst (λ (zs : List Edge). IsPictureOf p (with_edges g zs)) (take_all i es end) picture
