use Rattle.std.proofs.Common.{◌≡◌, ◌∙◌, ℕ, None, arith, cond, nat_eq, sym}
use Rattle.std.specs.Map.{lookup}
use Rattle.indexmap.specs.IndexMap.{Updates}
use Rattle.tg_rows.proofs.Results.{if_some}
use Rattle.tg_rows.proofs.FollowedRows.{aged_later, aged_rest, aged_swapped, can_follow, follow_begins, follow_ends, followed_swapped, later_long, one_followed, one_gone, swapped_long, taken, taken_out, old_or_gone, young_or_gone}
use Rattle.tg_rows.proofs.followed.follow_rows.Goals as goal

pub loop-i-init : goal.loop-i-init
loop-i-init c =
    (follow_begins c.args.moves.kind c.args.moves.numbering.now.starts c.args.moves.forward.now.words c.args.noted.now.places c.args.rows.now.entries c.args.first c.requires.rows c.requires.aged c.requires.full c.len.ensures.unique, c.requires.aged, omega arith)

pub follow_row_at-requires-clause-can : goal.follow_row_at-requires-clause-can
follow_row_at-requires-clause-can c =
    λ row found. can_follow c.args.moves.kind c.args.moves.numbering.now.starts c.args.moves.forward.now.words c.args.noted.now.places c.args.rows.now.entries c.loop-i.rows.entries c.loop-i.i (omega (arith, c.loop-i-test.true)) c.loop-i.invariant.0 c.requires.rows row found

pub loop-i-smaller-in-Gone : goal.loop-i-smaller-in-Gone
loop-i-smaller-in-Gone c =
    let long = later_long c.args.moves.kind c.args.moves.numbering.now.starts c.args.moves.forward.now.words c.args.noted.now.places c.args.rows.now.entries c.loop-i.rows.entries c.follow_row_at.new.rows.entries c.loop-i.i (omega (arith, c.loop-i-test.true)) c.loop-i.invariant.0 c.follow_row_at.ensures.row c.follow_row_at.ensures.followed c.follow_row_at.ensures.was c.follow_row_at.ensures.entries in
    let out = taken c.args.moves.kind c.args.moves.numbering.now.starts c.args.moves.forward.now.words c.args.noted.now.places c.args.rows.now.entries c.loop-i.rows.entries c.follow_row_at.new.rows.entries c.loop-i.i (omega (arith, c.loop-i-test.true)) c.loop-i.invariant.0 c.follow_row_at.ensures.row c.follow_row_at.ensures.followed c.follow_row_at.ensures.was c.follow_row_at.ensures.entries c.swap_remove_index.result c.swap_remove_index.new.self.entries c.swap_remove_index.ensures.entry c.swap_remove_index.ensures.entries in
    let short = out.1 in
    omega (arith, long, short, c.loop-i-test.true)

pub loop-i-preserved-in-Gone : goal.loop-i-preserved-in-Gone
loop-i-preserved-in-Gone c =
    let out = taken c.args.moves.kind c.args.moves.numbering.now.starts c.args.moves.forward.now.words c.args.noted.now.places c.args.rows.now.entries c.loop-i.rows.entries c.follow_row_at.new.rows.entries c.loop-i.i (omega (arith, c.loop-i-test.true)) c.loop-i.invariant.0 c.follow_row_at.ensures.row c.follow_row_at.ensures.followed c.follow_row_at.ensures.was c.follow_row_at.ensures.entries c.swap_remove_index.result c.swap_remove_index.new.self.entries c.swap_remove_index.ensures.entry c.swap_remove_index.ensures.entries in
    let names = taken_out c.args.moves.kind c.args.moves.numbering.now.starts c.args.moves.forward.now.words c.args.noted.now.places c.args.rows.now.entries c.loop-i.rows.entries c.follow_row_at.new.rows.entries c.loop-i.i (omega (arith, c.loop-i-test.true)) c.loop-i.invariant.0 c.follow_row_at.ensures.row c.follow_row_at.ensures.followed c.follow_row_at.ensures.was c.follow_row_at.ensures.entries c.swap_remove_index.result c.swap_remove_index.new.self.entries c.swap_remove_index.ensures.entry
    (if_some c.swap_remove_index.result (λ p. Updates nat_eq c.follow_row_at.new.rows c.swap_remove_index.new.self p.0 None) (λ p. (q : ℕ) → lookup (nat_eq q) c.swap_remove_index.new.self.entries ≡ cond (nat_eq p.0 q) None (lookup (nat_eq q) c.follow_row_at.new.rows.entries)) (λ p updates. updates.0) c.swap_remove_index.ensures.updates) in
    (one_gone c.args.moves.kind c.args.moves.numbering.now.starts c.args.moves.forward.now.words c.args.noted.now.places c.args.rows.now.entries c.loop-i.rows.entries c.follow_row_at.new.rows.entries c.loop-i.i (omega (arith, c.loop-i-test.true)) c.loop-i.invariant.0 c.follow_row_at.ensures.row c.follow_row_at.ensures.followed c.follow_row_at.ensures.was c.follow_row_at.ensures.entries _ c.swap_remove_index.new.self.entries out.0 (c.follow_row_at.ensures.gone c.in-Gone.is) names, aged_rest c.loop-i.rows.entries c.follow_row_at.new.rows.entries c.loop-i.old c.loop-i.i (omega (arith, c.loop-i-test.true)) c.loop-i.invariant.2 c.loop-i.invariant.1 c.follow_row_at.ensures.row c.follow_row_at.ensures.followed c.follow_row_at.ensures.was c.follow_row_at.ensures.entries c.follow_row_at.ensures.aged _ c.swap_remove_index.new.self.entries out.0, c.loop-i.invariant.2)

pub loop-i-smaller-in-Young : goal.loop-i-smaller-in-Young
loop-i-smaller-in-Young c =
    let long = later_long c.args.moves.kind c.args.moves.numbering.now.starts c.args.moves.forward.now.words c.args.noted.now.places c.args.rows.now.entries c.loop-i.rows.entries c.follow_row_at.new.rows.entries c.loop-i.i (omega (arith, c.loop-i-test.true)) c.loop-i.invariant.0 c.follow_row_at.ensures.row c.follow_row_at.ensures.followed c.follow_row_at.ensures.was c.follow_row_at.ensures.entries in
    omega (arith, long, c.loop-i-test.true)

pub loop-i-preserved-in-Young : goal.loop-i-preserved-in-Young
loop-i-preserved-in-Young c =
    (one_followed c.args.moves.kind c.args.moves.numbering.now.starts c.args.moves.forward.now.words c.args.noted.now.places c.args.rows.now.entries c.loop-i.rows.entries c.follow_row_at.new.rows.entries c.loop-i.i (omega (arith, c.loop-i-test.true)) c.loop-i.invariant.0 c.follow_row_at.ensures.row c.follow_row_at.ensures.followed c.follow_row_at.ensures.was c.follow_row_at.ensures.entries (c.follow_row_at.ensures.to (λ gone. young_or_gone (sym c.in-Young.is ∙ gone))) (c.follow_row_at.ensures.marked (λ gone. young_or_gone (sym c.in-Young.is ∙ gone))), aged_later c.loop-i.rows.entries c.follow_row_at.new.rows.entries c.loop-i.old c.loop-i.i (omega (arith, c.loop-i-test.true)) c.loop-i.invariant.2 c.loop-i.invariant.1 c.follow_row_at.ensures.row c.follow_row_at.ensures.followed c.follow_row_at.ensures.was c.follow_row_at.ensures.entries c.follow_row_at.ensures.aged, omega (arith, c.loop-i.invariant.2))

pub swap_indices-requires : goal.swap_indices-requires
swap_indices-requires c =
    let long = later_long c.args.moves.kind c.args.moves.numbering.now.starts c.args.moves.forward.now.words c.args.noted.now.places c.args.rows.now.entries c.loop-i.rows.entries c.follow_row_at.new.rows.entries c.loop-i.i (omega (arith, c.loop-i-test.true)) c.loop-i.invariant.0 c.follow_row_at.ensures.row c.follow_row_at.ensures.followed c.follow_row_at.ensures.was c.follow_row_at.ensures.entries in
    record { a_in_bounds = omega (arith, long, c.loop-i-test.true); b_in_bounds = omega (arith, long, c.loop-i.invariant.2, c.loop-i-test.true) }

pub loop-i-smaller : goal.loop-i-smaller
loop-i-smaller c =
    let long = later_long c.args.moves.kind c.args.moves.numbering.now.starts c.args.moves.forward.now.words c.args.noted.now.places c.args.rows.now.entries c.loop-i.rows.entries c.follow_row_at.new.rows.entries c.loop-i.i (omega (arith, c.loop-i-test.true)) c.loop-i.invariant.0 c.follow_row_at.ensures.row c.follow_row_at.ensures.followed c.follow_row_at.ensures.was c.follow_row_at.ensures.entries in
    let same = swapped_long c.follow_row_at.new.rows.entries c.swap_indices.new.self.entries c.loop-i.i c.loop-i.old c.swap_indices.ensures.entries in
    omega (arith, long, same, c.loop-i-test.true)

pub loop-i-preserved : goal.loop-i-preserved
loop-i-preserved c =
    let long = later_long c.args.moves.kind c.args.moves.numbering.now.starts c.args.moves.forward.now.words c.args.noted.now.places c.args.rows.now.entries c.loop-i.rows.entries c.follow_row_at.new.rows.entries c.loop-i.i (omega (arith, c.loop-i-test.true)) c.loop-i.invariant.0 c.follow_row_at.ensures.row c.follow_row_at.ensures.followed c.follow_row_at.ensures.was c.follow_row_at.ensures.entries in
    let on = one_followed c.args.moves.kind c.args.moves.numbering.now.starts c.args.moves.forward.now.words c.args.noted.now.places c.args.rows.now.entries c.loop-i.rows.entries c.follow_row_at.new.rows.entries c.loop-i.i (omega (arith, c.loop-i-test.true)) c.loop-i.invariant.0 c.follow_row_at.ensures.row c.follow_row_at.ensures.followed c.follow_row_at.ensures.was c.follow_row_at.ensures.entries (c.follow_row_at.ensures.to (λ gone. old_or_gone (sym c.in-Old.is ∙ gone))) (c.follow_row_at.ensures.marked (λ gone. old_or_gone (sym c.in-Old.is ∙ gone))) in (
      followed_swapped c.args.moves.kind c.args.moves.numbering.now.starts c.args.moves.forward.now.words c.args.noted.now.places c.args.rows.now.entries c.follow_row_at.new.rows.entries c.swap_indices.new.self.entries c.loop-i.old c.loop-i.i (omega (arith, long, c.loop-i-test.true)) c.loop-i.invariant.2 on c.swap_indices.ensures.entries c.swap_indices.ensures.reordered.2,
      aged_swapped c.loop-i.rows.entries c.follow_row_at.new.rows.entries c.loop-i.old c.loop-i.i (omega (arith, c.loop-i-test.true)) c.loop-i.invariant.2 c.loop-i.invariant.1 c.follow_row_at.ensures.row c.follow_row_at.ensures.followed c.follow_row_at.ensures.was c.follow_row_at.ensures.entries c.follow_row_at.ensures.aged (c.follow_row_at.ensures.old c.in-Old.is) c.swap_indices.new.self.entries c.swap_indices.ensures.entries,
      omega (arith, c.loop-i.invariant.2),
    )

pub returns-clause-followed : goal.returns-clause-followed
returns-clause-followed c =
    follow_ends c.args.moves.kind c.args.moves.numbering.now.starts c.args.moves.forward.now.words c.args.noted.now.places c.args.rows.now.entries c.loop-i.rows.entries c.loop-i.i c.loop-i.invariant.0 (omega (arith, c.loop-i-test.false))
