use Rattle.std.proofs.Common.{◌≡◌, ◌∙◌, ℕ, Bool, List, ap, ⊎_elim, subst, sym}
use Rattle.tg_space.specs.SpaceList.{SpaceList}
use Rattle.tg_space.specs.Targets.{from_space, root_targets_of}
use Rattle.tg_space.specs.Soundness.{IsRootIn}
use Rattle.tg_space.specs.declared.kind.Kind.{Kind}
use Rattle.tg_space.specs.declared.root.Root.{Root}
use Rattle.tg_space.specs.declared.root.Root.TheVariants.{Row}
use Rattle.tg_evac.specs.Claims.{is_straight}
use Rattle.tg_evac.specs.Walks.{ClaimsAll}
use Rattle.tg_evac.proofs.walk.Walk.claim_root.Goals as goal

pub claim_row-requires : goal.claim_row-requires
claim_row-requires g c =
    let row : IsRootIn c.args.self.spaces.now.spaces (Row c.in-Row.object) = subst (IsRootIn c.args.self.spaces.now.spaces) c.in-Row.is c.requires.root in
    record { walk = c.requires.walk; held = ⊎_elim (λ object. object.held) (λ chunk. chunk.held) row }

-- what is so of the root of an arm, and of a flag that was computed, is so of the root that was passed in
at_root : (P : Bool → List ℕ → Type 0) (h : SpaceList) (kind walked : Kind) (root r : Root) (straight : Bool) → straight ≡ is_straight walked root → walked ≡ kind → root ≡ r
    → P straight (root_targets_of (from_space kind) h r) → P (is_straight kind root) (root_targets_of (from_space kind) h root)
at_root P h kind walked root r straight is same this claims =
    subst (λ (s : Bool). P s (root_targets_of (from_space kind) h root)) (is ∙ ap (λ (k : Kind). is_straight k root) same)
    (subst (λ (x : Root). P straight (root_targets_of (from_space kind) h x)) (sym this) claims)

pub returns-in-Row : goal.returns-in-Row
returns-in-Row g c =
    let m = g.C.Claimer in let h = c.args.self.spaces.now.spaces in
    at_root (λ s targets. ClaimsAll m.walked m.knows m.is_full h s targets c.args.claimer.now c.claim_row.new.claimer c.claim_row.result) h (m.walked c.args.claimer.now).kind _ c.args.root _ _
    c.is_straight-straight.ensures (sym c.requires.walk.table.same) c.in-Row.is c.claim_row.ensures

pub returns-in-Remembered : goal.returns-in-Remembered
returns-in-Remembered g c =
    let m = g.C.Claimer in let h = c.args.self.spaces.now.spaces in
    at_root (λ s targets. ClaimsAll m.walked m.knows m.is_full h s targets c.args.claimer.now c.claim_targets.new.claimer c.claim_targets.result) h (m.walked c.args.claimer.now).kind _ c.args.root _ _
    c.is_straight-straight.ensures (sym c.requires.walk.table.same) c.in-Remembered.is c.claim_targets.ensures
