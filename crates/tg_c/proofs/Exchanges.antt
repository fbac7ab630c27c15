-- The code of `exchange`, walked once for all kinds of thing that C holds. A handle that C has and one of ours have the same two words, and own the same.
--     slot                what is owned of two words, with what is beside them
--     slot_out, slot_in   a slot is [the heap; what is beside]
--     swaps, swapped      the code: what each handle owns goes with its words
--     Meets-exchange      what the function meets
use mathlib.Core.Path.{◌≡◌, refl, sym, subst}
use mathlib.Core.List.{List, [], ◌∷◌, ◌++◌}
use mathlib.Core.Bool.{◌&&◌}
use lib.Dec.{T}
use seplogic.Ra.Ura.{Ura}
use mir.Syntax.{Fn, Sym, Ty, ty_ptr, ty_struct, tcons, tnil, dnil, impl, local, value_local, place, field, copy, rv_opd, aggregate, seq, assign, return}
use mir.Val.{Val, vstruct, of_list, has_ty, WT}
use Rattle.std.specs.Prelude.{Bool, true, false, Option, Some, None}
use Rattle.std.proofs.Common.{lit<}
use base.Logic.{SProp, ent, sep, emp, id⊢}
use base.Fml.{Fml, ftrue, fsep}
use prog.Wp.{Calls, Loops, WpFn, Tables}
use types.Logic.{Logic, sem}
use contract.Lifetimes.{Lfts}
use contract.Monad.{fact}
use sound.WpLaws.{WpFn-mono}
use types.Kit.{Goal, Seq, Step, step, Item, ⋆, ‵, raw, ◌⊛◌, ◌$◌, ◌∵◌, !, qed, by, move, keep, drop, use1, join, split, fsplit, fjoin, fpick, fpack, feq_i, feq_l, suffices, done}
use types.Part.{agg, whole, sub}
use types.Run.{stop, fld, no_more, and_then, of_opd, returns, enter}
use types.ByLocal.{alloc_all, pass_all, free_all, look_at, get, get_in, sets}
use denote.Exit.{yes, Last, left}
use denote.RattleType.{RattleType, Valss}
use denote.RawPtr.{Ptr, RawPtr, block_ptr, null_ptr, ptr_val}
use denote.Signature.{plain}
use denote.Steps.{nothing}
use denote.Struct.Struct.{Shape, Struct, within}
use denote.Struct.Tuple.{Tuple, tuple_name}
use denote.Triple.Clauses.{Clauses, Ended, closing}
use denote.Triple.Spec.{Meets}
use denote.Triple.Walked.{says, Stays, stay_dropped, walk_of, ends_at, Goes-dropped, walk_Meets}
use Rattle.core.proofs.alloc.Calls.{Al, α, Fits, handle_tells}
use Rattle.std_alloc.proofs.ResultValues.{and_tt}
use Rattle.std_heap.specs.contracts.Global as Heap
use Rattle.std_heap.specs.contracts.GlobalAllocator.TheImpl.{ghosts, dict}
use Rattle.std_heap.proofs.Global.TheLaws as heap_laws
use Rattle.tg_c.specs.Held.{held, held_by}
use Rattle.tg_c.specs.Inner.Places.{Holds}
use Rattle.tg_c.specs.contracts.handle.Handle as handle

abbrev heap : Al
heap = record { row = Heap.the_row; laws = heap_laws.the_row_laws; g = ghosts; d = dict; drops = impl [] tnil dnil }

abbrev Owner : Type 0
Owner = Heap.the_row.Denot

-- ---- two words

abbrev words : Ptr → Val → Val
words p hv = vstruct (of_list (ptr_val p ∷ hv ∷ []))

abbrev two : Shape
two = record { name = []; args = []; types = []; fields = RawPtr ∷ Heap.the_row ∷ [] }

abbrev slot : Ptr → Owner → Fml → List Val → Fml
slot p a beside vs = fsep ((Struct two).own_val (p, (a, tt)) vs) beside

abbrev pair : Val → Val → Val
pair v w = vstruct (of_list (v ∷ w ∷ []))

both : (a b : Bool) → T a → T b → T (a && b)
both true b s t = t
both false b s t = absurd s

ptr_typed : (p : Ptr) → T (has_ty ty_ptr (ptr_val p)) × WT (ptr_val p)
ptr_typed (block_ptr b o) = (tt, tt)
ptr_typed null_ptr = (tt, record { fits = lit< tt })

abbrev held_as : Sym → Ty
held_as name = ty_struct name (tcons ty_ptr (tcons (α heap) tnil))

words_typed : (name : Sym) (p : Ptr) (hv : Val) → Fits heap hv → T (has_ty (held_as name) (words p hv)) × WT (words p hv)
words_typed name (block_ptr b o) hv fa = (and_tt _ fa.0, (tt, (fa.1, tt)))
words_typed name null_ptr hv fa = (and_tt _ fa.0, (record { fits = lit< tt }, (fa.1, tt)))

module _ {M : Type 1} {𝓤 : Ura M} {𝓛 : Logic 𝓤} {K : Type 0} {Γ : List (Item 𝓤)} {G : Goal 𝓤 𝓛.H} where
  slot_out : K → (p : Ptr) (a : Owner) (beside : Fml) (vs : List Val)
      → ((hv : Val) → vs ≡ words p hv ∷ [] → Fits heap hv → Seq K 𝓛 (‵ (Heap.the_row.own_val a (hv ∷ [])) ∷ ‵ beside ∷ Γ) G)
      → Seq K 𝓛 (‵ (slot p a beside vs) ∷ Γ) G
  slot_out t p a beside vs k =
      fsplit t $ fpick t (λ vss. fsplit t $ feq_l t (λ ev. fsplit t $ feq_l t (λ ep. fsplit t $ handle_tells heap t a vss.1.0 (λ hv ea fa. move t (1 ∷ []) $ drop t $ k hv
      (subst (λ (ws : List Val). vs ≡ vstruct (of_list (ptr_val p ∷ (ws ++ []))) ∷ []) ea (subst (λ (ps : List Val). vs ≡ vstruct (of_list (ps ++ (vss.1.0 ++ []))) ∷ []) ep ev)) fa))))

  slot_in : K → (p : Ptr) (a : Owner) (beside : Fml) (hv : Val)
      → Step K 𝓛 (‵ (slot p a beside (words p hv ∷ [])) ∷ Γ) G (‵ (Heap.the_row.own_val a (hv ∷ [])) ∷ ‵ beside ∷ Γ) G
  slot_in t p a beside hv = step (λ s.
      nothing t $ move t (1 ∷ 0 ∷ []) $ fjoin t $ feq_i t (List Val) (ptr_val p ∷ []) (ptr_val p ∷ []) refl $ fjoin t $
      feq_i t (List Val) (words p hv ∷ []) (words p hv ∷ []) refl $ fjoin t $
      fpack t (Valss (RawPtr ∷ Heap.the_row ∷ [])) (within two (p, (a, tt)) (words p hv ∷ [])) (ptr_val p ∷ [], (hv ∷ [], tt)) $ fjoin t $ s)

-- ---- the code

abbrev tuple_as : Sym → Sym → Ty
tuple_as ours theirs = ty_struct (tuple_name 2) (tcons (held_as ours) (tcons (held_as theirs) tnil))

abbrev swaps : Sym → Sym → Fn
swaps ours theirs = record {
  lifetimes = 0;
  outlives = [];
  ty_params = [];
  givens = 0;
  params = 2;
  locals = local (tuple_as ours theirs) value_local ∷ local (held_as ours) value_local ∷ local (held_as theirs) value_local
      ∷ local ty_ptr value_local ∷ local (α heap) value_local ∷ local (held_as theirs) value_local
      ∷ local ty_ptr value_local ∷ local (α heap) value_local ∷ local (held_as ours) value_local
      ∷ local ty_ptr value_local ∷ local ty_ptr value_local ∷ [];
  body = seq (assign (place 3 []) (rv_opd (copy (place 1 (field 0 ∷ []))))) (seq (assign (place 4 []) (rv_opd (copy (place 1 (field 1 ∷ [])))))
      (seq (assign (place 9 []) (rv_opd (copy (place 3 [])))) (seq (assign (place 5 []) (aggregate (copy (place 9 []) ∷ copy (place 4 []) ∷ [])))
      (seq (assign (place 6 []) (rv_opd (copy (place 2 (field 0 ∷ []))))) (seq (assign (place 7 []) (rv_opd (copy (place 2 (field 1 ∷ [])))))
      (seq (assign (place 10 []) (rv_opd (copy (place 6 [])))) (seq (assign (place 8 []) (aggregate (copy (place 10 []) ∷ copy (place 7 []) ∷ [])))
      (seq (assign (place 0 []) (aggregate (copy (place 8 []) ∷ copy (place 5 []) ∷ []))) return))))))));
}

module _ (ours theirs : Sym) {M : Type 1} {𝓤 : Ura M} (𝓛 : Logic 𝓤) (C : Calls 𝓤 𝓛.H) (Λ : Loops 𝓤 𝓛.H) (Post : Val → SProp 𝓤) where
  open 𝓛 use {H}

  abbrev code' : Fn
  code' = swaps ours theirs

  swapped : (p q : Ptr) (a b : Owner) (F G : Fml) (vs us : List Val)
      → ((v w : Val) → ent 𝓤 (sep 𝓤 (sem 𝓛 (slot q b G (v ∷ []))) (sem 𝓛 (slot p a F (w ∷ [])))) (Post (pair v w)))
      → ent 𝓤 (sep 𝓤 (sem 𝓛 (slot p a F vs)) (sem 𝓛 (slot q b G us))) (WpFn 𝓤 H C Λ code' (vs ++ (us ++ [])) Post)
  swapped p q a b F G vs us ends =
      qed 𝓛 ((‵ (slot p a F vs) ⊛ ‵ (slot q b G us)) ∷ []) ∵ split ! $ slot_out ! p a F vs (λ hv ws fa. move ! (2 ∷ []) $ slot_out ! q b G us (λ kv xs fb.
      let Γ : List (Item 𝓤) = ‵ (Heap.the_row.own_val b (kv ∷ [])) ∷ ‵ G ∷ ‵ (Heap.the_row.own_val a (hv ∷ [])) ∷ ‵ F ∷ [] in
      let mine = words_typed theirs p hv fa in let yours = words_typed ours q kv fb in
      by ! (subst (λ (ts : List Val). ent 𝓤 (⋆ 𝓛 Γ) (WpFn 𝓤 H C Λ code' (ts ++ (us ++ [])) Post)) (sym ws)
      (subst (λ (ts : List Val). ent 𝓤 (⋆ 𝓛 Γ) (WpFn 𝓤 H C Λ code' (words p hv ∷ (ts ++ [])) Post)) (sym xs)
      (qed 𝓛 Γ ∵ enter ! C Λ code' (words p hv ∷ words q kv ∷ []) _ $ alloc_all ! (λ ls. pass_all ! refl (words_typed ours p hv fa, (words_typed theirs q kv fb, tt)) $
      sets ! (of_opd ! (get_in ! (fld ! refl (stop !)) (sub ! 0 refl (whole !)))) refl (ptr_typed p) $ sets ! (of_opd ! (get_in ! (fld ! refl (stop !)) (sub ! 1 refl (whole !)))) refl fa $
      sets ! (of_opd ! (get ! refl)) refl (ptr_typed p) $ sets ! (agg ! (and_then ! (get ! refl) (and_then ! (get ! refl) (no_more !)))) refl mine $
      sets ! (of_opd ! (get_in ! (fld ! refl (stop !)) (sub ! 0 refl (whole !)))) refl (ptr_typed q) $ sets ! (of_opd ! (get_in ! (fld ! refl (stop !)) (sub ! 1 refl (whole !)))) refl fb $
      sets ! (of_opd ! (get ! refl)) refl (ptr_typed q) $ sets ! (agg ! (and_then ! (get ! refl) (and_then ! (get ! refl) (no_more !)))) refl yours $
      sets ! (agg ! (and_then ! (get ! refl) (and_then ! (get ! refl) (no_more !)))) refl (both _ _ yours.0 (and_tt _ mine.0), (yours.1, (mine.1, tt))) $ returns ! (look_at ! 0 refl) $ free_all ! refl $
      -- [the heap; what is beside; the other heap; what is beside]
      slot_in ! q b G kv $ move ! (1 ∷ 2 ∷ []) $ slot_in ! p a F hv $ move ! (1 ∷ 0 ∷ []) $ join ! $ by ! (ends (words q kv) (words p hv))))))))

-- ---- what it meets

module _ (Ours : RattleType) (of : RattleType) where
  abbrev pub Theirs : RattleType
  Theirs = handle.the_row of Heap.the_row ghosts

  abbrev theirs : Sym
  theirs = (handle.the_type of Heap.the_row ghosts).name

  abbrev To : RattleType
  To = Tuple (Ours ∷ Theirs ∷ [])

  abbrev pub Made : Ended
  Made = record { signature = record { lifetimes = 0; outlives = []; params = plain (λ _. Ours) ∷ plain (λ _. Theirs) ∷ []; result = plain (λ _. To) }; kept = (yes, (yes, tt)) }

  abbrev stayed : Stays Made.signature.params Made.kept
  stayed = (stay_dropped (plain (λ _. Ours)) yes, (stay_dropped (plain (λ _. Theirs)) yes, tt))

  -- what a handle of C has: its two words, and what is known of it
  abbrev pub Fields : Type 0
  Fields = Ptr × Owner × Bool × of.Denot

  abbrev what : Bool → of.Denot → Option of.Denot
  what true opened = Some opened
  what false opened = None

  abbrev is_there : Option of.Denot → Bool
  is_there (Some opened) = true
  is_there None = false

  abbrev or_else : of.Denot → Option of.Denot → of.Denot
  or_else other (Some opened) = opened
  or_else other None = other

  given : (b : Bool) (x : of.Denot) → Holds b x (what b x)
  given true x = (refl, refl)
  given false x = refl

  taken : (x : of.Denot) (o : Option of.Denot) → Holds (is_there o) (or_else x o) o
  taken x (Some opened) = (refl, refl)
  taken x None = refl

  module _ {M : Type 1} {𝓤 : Ura M} (𝓛 : Logic 𝓤) where
    open 𝓛 use {H}

    beside_of : (p : Ptr) (a : Owner) (x : of.Denot) (o : Option of.Denot) (vs : List Val)
        → ent 𝓤 (sem 𝓛 (slot p a (held (ghosts.dealloc_token a) of p o) vs)) (sem 𝓛 (slot p a (held_by of (is_there o) a p (or_else x o)) vs))
    beside_of p a x (Some opened) vs = id⊢ 𝓤 _
    beside_of p a x None vs = id⊢ 𝓤 _

    beside_by : (p : Ptr) (a : Owner) (b : Bool) (x : of.Denot) (vs : List Val)
        → ent 𝓤 (sem 𝓛 (slot p a (held_by of b a p x) vs)) (sem 𝓛 (slot p a (held (ghosts.dealloc_token a) of p (what b x)) vs))
    beside_by p a true x vs = id⊢ 𝓤 _
    beside_by p a false x vs = id⊢ 𝓤 _

    tupled : (x : Ours.Denot) (y : Theirs.Denot) (v w : Val)
        → ent 𝓤 (sep 𝓤 (sem 𝓛 (Ours.own_val x (v ∷ []))) (sem 𝓛 (Theirs.own_val y (w ∷ [])))) (sem 𝓛 (To.own_val (x, y) (pair v w ∷ [])))
    tupled x y v w =
        qed 𝓛 ((‵ (Ours.own_val x (v ∷ [])) ⊛ ‵ (Theirs.own_val y (w ∷ []))) ∷ []) ∵ split ! $ nothing ! $ move ! (2 ∷ 0 ∷ []) $ fjoin ! $ move ! (1 ∷ 0 ∷ []) $ fjoin ! $
        feq_i ! (List Val) (pair v w ∷ []) (pair v w ∷ []) refl $ fjoin ! $
        fpack ! (Valss (Ours ∷ Theirs ∷ [])) (within (record { name = []; args = []; types = []; fields = Ours ∷ Theirs ∷ [] }) (x, (y, tt)) (pair v w ∷ [])) (v ∷ [], (w ∷ [], tt)) $ done !

    module _ (fields : Ours.Denot → Fields) where
      -- each holds then what the other held
      abbrev gives : Ours.Denot → Theirs.Denot → To.Denot → Type 0
      gives h t r = Holds (fields h).2 (fields h).3 r.1.opened × Holds (fields r.0).2 (fields r.0).3 t.opened

      abbrev pub clauses : Clauses 𝓤 Made
      clauses κs a = record { ghost = Unit {0}; requires = λ _. emp 𝓤; ensures = λ _ r _. fact 𝓤 (gives a.0 a.1.0 r) }

      pub Meets-exchange : (ours : Sym) (make : Fields → Ours.Denot) (𝓣 : Tables 𝓤 H)
          → ((κs : Lfts 0) (x : Ours.Denot) (f : Last (Ours.exit yes) x) → left (Ours.exit yes) x f ≡ ftrue) → ((x : Ours.Denot) → Last (Ours.exit yes) x)
          → ((h : Ours.Denot) (vs : List Val) → let f = fields h in ent 𝓤 (sem 𝓛 (Ours.own_val h vs)) (sem 𝓛 (slot f.0 f.1 (held_by of f.2 f.1 f.0 f.3) vs)))
          → ((f : Fields) (vs : List Val) → ent 𝓤 (sem 𝓛 (slot f.0 f.1 (held_by of f.2 f.1 f.0 f.3) vs)) (sem 𝓛 (Ours.own_val (make f) vs)))
          → ((f : Fields) → fields (make f) ≡ f)
          → Meets 𝓛 Made.signature (WpFn 𝓤 H 𝓣.C 𝓣.Λ (swaps ours theirs)) (closing 𝓛 Made clauses)
      Meets-exchange ours make 𝓣 silent bound out back reads =
          walk_Meets 𝓛 Made stayed (Goes-dropped 𝓛 0 (plain (λ _. Ours)) yes silent, (Goes-dropped 𝓛 0 (plain (λ _. Theirs)) yes (λ κs t f. refl), tt)) clauses
          (WpFn 𝓤 H 𝓣.C 𝓣.Λ (swaps ours theirs)) (WpFn-mono 𝓤 H 𝓛.laws 𝓣 (swaps ours theirs)) (λ z.
          let h = z.0.3.0 in let t = z.0.3.1.0 in let f = fields h in let vs = z.0.4.0 in let us = z.0.4.1.0 in let Post = (walk_of 𝓛 Made stayed clauses).post z in
          let F = held_by of f.2 f.1 f.0 f.3 in let G = held (ghosts.dealloc_token t.alloc) of t.at t.opened in
          let got : Fields = (t.at, t.alloc, is_there t.opened, or_else f.3 t.opened) in let gave : Theirs.Denot = record { at = f.0; alloc = f.1; opened = what f.2 f.3 } in
          qed 𝓛 ((‵ ftrue ⊛ ‵ (fsep (Ours.own_val h vs) (fsep (Theirs.own_val t us) ftrue))) ∷ raw (emp 𝓤) ∷ []) ∵ split ! $ drop ! $ fsplit ! $ move ! (1 ∷ []) $ fsplit ! $
          move ! (2 ∷ 0 ∷ []) $ keep ! (0 ∷ 1 ∷ []) $ use1 𝓛 (‵ (slot f.0 f.1 F vs)) (out h vs) $ join ! $
          by ! (swapped ours theirs 𝓛 𝓣.C 𝓣.Λ Post f.0 t.at f.1 t.alloc F G vs us (λ v w.
          qed 𝓛 ((‵ (slot t.at t.alloc G (v ∷ [])) ⊛ ‵ (slot f.0 f.1 F (w ∷ []))) ∷ []) ∵ split ! $
          use1 𝓛 (‵ (slot t.at t.alloc (held_by of got.2 t.alloc t.at got.3) (v ∷ []))) (beside_of t.at t.alloc f.3 t.opened (v ∷ [])) $ use1 𝓛 (‵ (Ours.own_val (make got) (v ∷ []))) (back got (v ∷ [])) $ move ! (1 ∷ []) $
          use1 𝓛 (‵ (Theirs.own_val gave (w ∷ []))) (beside_by f.0 f.1 f.2 f.3 (w ∷ [])) $ move ! (1 ∷ 0 ∷ []) $ join ! $
          use1 𝓛 (‵ (To.own_val (make got, gave) (pair v w ∷ []))) (tupled (make got) gave v w) $
          suffices ! _ (ends_at 𝓛 Made stayed clauses z (pair v w) (make got, gave) (bound h, (tt, tt)) (tt, (tt, tt))) $ says ! (given f.2 f.3, subst (λ (m : Fields). Holds m.2 m.3 t.opened) (sym (reads got)) (taken f.3 t.opened)) $
          nothing ! $ nothing ! $ nothing ! $ fjoin ! $ move ! (1 ∷ 0 ∷ []) $ fjoin ! $ join ! $ nothing ! $ join ! $ done !)))
