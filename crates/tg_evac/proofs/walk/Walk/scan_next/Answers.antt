use Rattle.std.proofs.Common.{ℕ, List, ◌^◌, [], length, refl, sym, subst, arith, lit<, ◌∙◌, ⊎_elim}
use Rattle.std.specs.List.{All}
use Rattle.std.proofs.lemmas.Bool.{cases_lt}
use Rattle.std.proofs.lemmas.List.{get_or_past}
use Rattle.std.proofs.lemmas.List.Elements.{All-nil, Contains-get_or}
use Rattle.tg_space.specs.Soundness.{IsPointer}
use Rattle.tg_space.specs.SpaceList.{SpaceList, cells_of}
use Rattle.tg_space.specs.Targets.{cell_numbered, pointers_of}
use Rattle.tg_space.specs.declared.kind.Kind.{Kind}
use Rattle.tg_evac.specs.Claims.{AreTraced, HavePointers, win_at}
use Rattle.tg_evac.proofs.Reasons.{all_in_old}
use Rattle.tg_evac.proofs.Pieces.{scan_copied, scan_keeps, scan_room, scan_traced, straight_aged, straight_old}
use Rattle.tg_evac.proofs.walk.Walk.scan_next.Goals as goal

pub returns-clause-scans : goal.returns-clause-scans
returns-clause-scans g c =
    let h = c.args.self.spaces.now.spaces in let n = c.args.k in let w = win_at (g.C.Claimer.walked c.args.claimer.now).won n in
    let straight = c.is_in_old-straight.result in let source = c.args.words.now in let so = c.requires.walk.copies in
    let is_old = c.is_in_old-straight.ensures.space in let added = c.push_copy.ensures.claims.added in
    record {
      goes = record {
        keeps = scan_keeps h n w straight source so c.requires.next refl is_old c.requires.words added;
        grows = c.push_copy.ensures.claims.grows;
        full = c.push_copy.ensures.claims.full;
      };
      traced = scan_traced h n w straight source so c.requires.next refl is_old c.requires.words added;
      copies = scan_copied h n w straight source so c.requires.next refl is_old c.requires.words added c.push_copy.result c.push_copy.ensures.claims.grows c.push_copy.ensures.claims.met c.is_in_old-straight.ensures.two
          c.push_copy.new.self.aged c.push_copy.new.self.old c.push_copy.ensures.old c.push_copy.ensures.old_kept c.push_copy.ensures.aged c.push_copy.ensures.aged_kept;
    }

pub push_copy-requires-clause-old_room : goal.push_copy-requires-clause-old_room
push_copy-requires-clause-old_room g c is_true =
    let h = c.args.self.spaces.now.spaces in let n = c.args.k in let w = win_at (g.C.Claimer.walked c.args.claimer.now).won n in
    let straight = c.is_in_old-straight.result in let source = c.args.words.now in let so = c.requires.walk.copies in
    let is_old = c.is_in_old-straight.ensures.space in
    scan_room h n w straight source so c.requires.next refl is_old c.requires.words 0 (2 ^ 26) c.args.copies.now.old so.old_long (c.requires.room 0 (lit< tt))
    (straight_old h n w straight source so c.requires.next refl is_old c.requires.words is_true)

pub push_copy-requires-clause-aged_room : goal.push_copy-requires-clause-aged_room
push_copy-requires-clause-aged_room g c isnt =
    let h = c.args.self.spaces.now.spaces in let n = c.args.k in let w = win_at (g.C.Claimer.walked c.args.claimer.now).won n in
    let straight = c.is_in_old-straight.result in let source = c.args.words.now in let so = c.requires.walk.copies in
    let is_old = c.is_in_old-straight.ensures.space in let two = c.is_in_old-straight.ensures.two in
    let other = straight_aged h n w straight source so c.requires.next refl is_old c.requires.words isnt in
    scan_room h n w straight source so c.requires.next refl is_old c.requires.words 1 (2 ^ 26) c.args.copies.now.aged so.aged_long (c.requires.room 1 (lit< tt)) (omega arith)

pub is_in_old-straight-requires : goal.is_in_old-straight-requires
is_in_old-straight-requires g c =
    let h = c.args.self.spaces.now.spaces in let won = (g.C.Claimer.walked c.args.claimer.now).won in let n = c.args.k in
    record {
      next = c.requires.next;
      full = λ full.
          let traced = subst (λ (k : Kind). AreTraced k h c.requires.walk.traced.0 won) (c.requires.walk.walk.table.same ∙ full) c.requires.walk.traced.1 in
          all_in_old h c.requires.walk.traced.0 won traced (win_at won n) (Contains-get_or won n (win_at [] 0) c.requires.next);
    }

-- what is after the last cell has no words
pointers_numbered : (h : SpaceList) → HavePointers h → (n : ℕ) → All (IsPointer h) (pointers_of (cell_numbered h n))
pointers_numbered h are n = ⊎_elim (λ low. are.numbered n low)
    (λ high. subst (λ (ws : List ℕ). All (IsPointer h) (pointers_of ws)) (sym (get_or_past (cells_of h) n [] high)) (All-nil (IsPointer h)))
    (cases_lt n (length (cells_of h)))

pub push_copy-requires-clause-may : goal.push_copy-requires-clause-may
push_copy-requires-clause-may g c =
    let h = c.args.self.spaces.now.spaces in
    record {
      pointers = subst (λ (ws : List ℕ). All (IsPointer h) (pointers_of ws)) (sym c.requires.words)
          (pointers_numbered h c.requires.walk.walk.pointers (win_at (g.C.Claimer.walked c.args.claimer.now).won c.args.k).cell);
      table = c.requires.walk.walk.table;
    }
