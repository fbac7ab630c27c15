use Rattle.std.proofs.Common.{◌≡◌, ℕ, ◌<◌, Bool, true, false, Some, None, List, [], ◌∷◌, ◌++◌, ◌+◌, length, get_or, take, refl, ap, subst, sym, ◌∙◌, ⊎_elim, append_assoc, append-nil}
use Rattle.std.proofs.lemmas.List.{take_more, take_all}
use Rattle.tg_rights.specs.RightSet.{RightSet, is_none_held, label_of}
use Rattle.tg_word.specs.declared.Place.{Place}
use Rattle.tg_word.specs.Word.{place_in, rights_in}
use Rattle.tg_space.specs.SpaceList.{HasCell, SpaceList}
use Rattle.tg_space.specs.Soundness.{RefersTo}
use Rattle.tg_rows.specs.Rows.{edges_in, name_at, name_in}
use Rattle.tg_rows.proofs.Walks.{edges_in-append}
use borrow.Author.Count.{falls}
use Rattle.tg_rows.proofs.rows.push_edges.Goals as goal
use Rattle.tg_rows.proofs.rows.push_edges.Goals.{in-Some+in_ok-push, in_default}

-- the edge of one reference
edge_held : (h : SpaceList) (word : ℕ) (s : RightSet) (name : ℕ) → label_of (rights_in word) ≡ Some s → name ≡ name_in h word → edges_in h (word ∷ []) ≡ (name, s) ∷ []
edge_held h word s name is named = by_test (is_none_held (rights_in word)) refl
  where
    by_test : (b : Bool) → is_none_held (rights_in word) ≡ b → edges_in h (word ∷ []) ≡ (name, s) ∷ []
    by_test true e = let none : label_of (rights_in word) ≡ None = rw e refl in cc
    by_test false e =
        let some : label_of (rights_in word) ≡ Some (rights_in word) = rw e refl in
        let same : rights_in word ≡ s = cc in
        rw e (rw (same, ← named) refl)

edge_none : (h : SpaceList) (word : ℕ) → label_of (rights_in word) ≡ None → edges_in h (word ∷ []) ≡ []
edge_none h word is = by_test (is_none_held (rights_in word)) refl
  where
    by_test : (b : Bool) → is_none_held (rights_in word) ≡ b → edges_in h (word ∷ []) ≡ []
    by_test true e = rw e refl
    by_test false e = let some : label_of (rights_in word) ≡ Some (rights_in word) = rw e refl in cc

-- with the edges of one more reference
edges_more : (h : SpaceList) (words : List ℕ) (i : ℕ) (before edges more now : List (ℕ × RightSet)) → i < length words → edges ≡ before ++ edges_in h (take i words) → edges_in h (get_or words i 0 ∷ []) ≡ more → now ≡ edges ++ more →
    now ≡ before ++ edges_in h (take (i + 1) words)
edges_more h words i before edges more now inside are one is =
    is ∙ ap (λ es. es ++ more) are ∙ append_assoc before (edges_in h (take i words)) more
    ∙ ap (λ es. before ++ (edges_in h (take i words) ++ es)) (sym one)
    ∙ ap (λ es. before ++ es) (sym (edges_in-append h (take i words) (get_or words i 0 ∷ [])) ∙ ap (edges_in h) (sym (take_more words i 0 inside)))

pub loop-word-preserved : goal.loop-word-preserved
loop-word-preserved c =
    let h = c.args.spaces.now.spaces in let words = c.args.words.now in let i = c.loop-word.word-index in let word = get_or words i 0 in
    let label = c.new.ensures ∙ ap label_of c.rights_of.ensures in
    elim c.match-new.branch [
      | in-Some+in_ok-push w ↦
          let named : w.read.result ≡ name_in h word = w.read.ensures ∙ ap (λ (p : Place). name_at h p) w.place_of.ensures in
          edges_more h words i c.args.edges.now.items c.loop-word.edges.items ((w.read.result, w.in-Some.label) ∷ []) c.match-new.edges.items c.loop-word-test.true c.loop-word.invariant
          (edge_held h word w.in-Some.label w.read.result (sym label ∙ w.in-Some.is) named) (rw w.edges-is w.in_ok-push.ensures.items)
      | in_default w ↦
          edges_more h words i c.args.edges.now.items c.loop-word.edges.items [] c.match-new.edges.items c.loop-word-test.true c.loop-word.invariant
          (edge_none h word (sym label ∙ w.in_default.is)) (rw w.edges-is (sym (append-nil c.loop-word.edges.items)))
    ]

pub read-requires-clause-held : goal.read-requires-clause-held
read-requires-clause-held c =
    let h = c.args.spaces.now.spaces in
    let word = get_or c.args.words.now c.loop-word.word-index 0 in
    let some : label_of (rights_in word) ≡ Some c.in-Some.label = sym (c.new.ensures ∙ ap label_of c.rights_of.ensures) ∙ c.in-Some.is in
    let held : HasCell h (place_in word) =
    ⊎_elim (λ (zero : word ≡ 0). let none : label_of (rights_in word) ≡ None = ap (λ (w : ℕ). label_of (rights_in w)) zero in absurd cc) (λ (to : RefersTo h word). to.object.held) (c.requires c.loop-word.word-index 0 c.loop-word-test.true) in
    subst (HasCell h) (sym c.place_of.ensures) held

pub loop-word-smaller : goal.loop-word-smaller
loop-word-smaller c = falls (length c.args.words.now) c.loop-word.word-index c.loop-word-test.true

pub returns : goal.returns
returns c =
    c.loop-word.invariant ∙ ap (λ (words : List ℕ). c.args.edges.now.items ++ edges_in c.args.spaces.now.spaces words) (take_all c.loop-word.word-index c.args.words.now c.loop-word-test.false)
