-- What a collection makes of the cells of a heap and their payloads.
use Rattle.std.proofs.Common.{◌≡◌, ◌∙◌, ◌≢◌, ℕ, List, AllPairs, IsSome, length, map, ap, subst, sym}
use Rattle.std.specs.List.{All, Contains}
use Rattle.tg_payload.specs.Table.{entry}
use Rattle.tg_space.specs.SpaceList.{SpaceList, IsSpaceList, cells_of}
use Rattle.tg_space.specs.SpaceTable.{IsSpaceTable, SpaceTable, with_adopted}
use Rattle.tg_space.specs.declared.kind.Kind.{Kind}
use Rattle.tg_space.specs.declared.kind.Kind.TheVariants.{Full, Nursery}
use Rattle.tg_graph.specs.Kept.{AreMoved, AreWritten, Drops, IsDeadKey, IsLeftInOld, rewritten, rewritten_at}
use Rattle.tg_rows.proofs.Results.{both_oks, success_gives}
use Rattle.tg_graph.proofs.KeptDropped.{dead_there, drops_same}
use Rattle.tg_graph.proofs.KeptWritten.{left_in_old, none_written}
use Rattle.tg_graph.proofs.settle.move_cells.Goals as goal

pub drop_uncopied-requires-clause-whole : goal.drop_uncopied-requires-clause-whole
drop_uncopied-requires-clause-whole g c = c.requires.1.numbers.whole ∙ ap (λ (h : SpaceList). length (cells_of h)) c.requires.1.before

pub dead_keys-requires : goal.dead_keys-requires
dead_keys-requires g c = record { apart = c.requires.1.graph.keys; whole = c.requires.1.numbers.whole ∙ ap (λ (h : SpaceList). length (cells_of h)) c.requires.1.before }

pub drop_payloads-requires-clause-there : goal.drop_payloads-requires-clause-there
drop_payloads-requires-clause-there g c =
    let cells = c.args.cells.now in
    let whole = subst IsSpaceList c.requires.1.before c.requires.1.numbers.spaces in
    subst (λ (keys : List ℕ). All (λ key. IsSome (entry cells.payloads key)) keys) (sym c.deref.ensures.value)
    (dead_there cells.spaces.spaces whole c.args.moves.forward.now.words cells.payloads c.requires.1.graph Nursery c.in_ok-dead-in-Nursery.dead.items c.in_ok-dead-in-Nursery.ensures.keys)

pub drop_payloads-requires-clause-each_once : goal.drop_payloads-requires-clause-each_once
drop_payloads-requires-clause-each_once g c = subst (λ (keys : List ℕ). AllPairs (λ a b. a ≢ b) keys) (sym c.deref.ensures.value) c.in_ok-dead-in-Nursery.ensures.each_once

pub rewrite-requires : goal.rewrite-requires
rewrite-requires g c =
    let cells = c.args.cells.now in
    let numbers = c.requires.1.numbers in
    let whole = subst IsSpaceList c.requires.1.before numbers.spaces in
    let left = left_in_old cells.spaces.spaces c.adopt-in-Nursery.new.self cells.remembered.places c.args.adoption.aged c.args.adoption.old whole c.requires.1.graph.sound c.requires.1.remembered (ap (λ (t : SpaceTable). t.spaces) c.in_ok-adopt-in-Nursery.ensures.adopted) in
    record { numbers = numbers; nursery = c.in-Nursery.is; cells = subst (λ (h : SpaceList). All (IsLeftInOld h c.adopt-in-Nursery.new.self) cells.remembered.places) (sym c.requires.1.before) left }

pub returns-in_ok-adopt-in-Nursery-clause-moved : goal.returns-in_ok-adopt-in-Nursery-clause-moved
returns-in_ok-adopt-in-Nursery-clause-moved g c =
    let cells = c.args.cells.now in
    let forward = c.args.moves.forward.now.words in
    let aged = c.args.adoption.aged in
    let old = c.args.adoption.old in
    let after = c.rewrite.new.spaces in
    let left = c.drop_payloads.new.payloads in
    let Writes : SpaceTable → SpaceList → Type 0 = λ t h. AreWritten t after (map (rewritten_at h forward) cells.remembered.places) in
    subst (λ (kind : Kind). AreMoved kind cells (record { alloc = cells.alloc; spaces = after; payloads = left; remembered = cells.remembered }) forward aged old) (sym c.in-Nursery.is)
    (record {
      dropped =
          drops_same cells.payloads left (Contains c.in_ok-dead-in-Nursery.dead.items) (IsDeadKey Nursery cells.spaces.spaces forward)
          (subst (λ (keys : List ℕ). Drops cells.payloads left (Contains keys)) c.deref.ensures.value c.drop_payloads.ensures) c.in_ok-dead-in-Nursery.ensures.keys;
      written = subst (Writes (with_adopted cells.spaces Nursery aged old)) c.requires.1.before (subst (λ (t : SpaceTable). Writes t g.h) c.in_ok-adopt-in-Nursery.ensures.adopted c.rewrite.ensures.written);
      table = c.rewrite.ensures.table;
    })

pub returns-in-Full-clause-moved : goal.returns-in-Full-clause-moved
returns-in-Full-clause-moved g c =
    let cells = c.args.cells.now in
    let forward = c.args.moves.forward.now.words in
    let aged = c.args.adoption.aged in
    let old = c.args.adoption.old in
    let after = c.adopt.new.self in
    let t = with_adopted cells.spaces Full aged old in
    success_gives c.adopt.result
    (λ both. subst (λ (kind : Kind). AreMoved kind cells (record { alloc = cells.alloc; spaces = after; payloads = c.drop_uncopied.new.payloads; remembered = cells.remembered }) forward aged old) (sym c.in-Full.is)
    (record {
      dropped = c.drop_uncopied.ensures;
      written = subst (λ (u : SpaceTable). AreWritten t u (rewritten Full cells.spaces.spaces forward cells.remembered.places)) (sym both.0) (none_written t);
      table = both.1;
    }))
    (both_oks (after ≡ t) (IsSpaceTable after) c.adopt.result c.adopt.ensures.adopted c.adopt.ensures.table)
