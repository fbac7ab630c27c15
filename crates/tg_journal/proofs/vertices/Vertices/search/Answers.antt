use Rattle.std.proofs.Common.{◌≡◌, ◌∙◌, ◌-◌, length, sym, ap, rules}
use Rattle.std.specs.Prelude.{slice_get}
use Rattle.std.proofs.lemmas.List.Sorted.{answers_always}
use Rattle.std.specs.Option.{option_copied}
use Rattle.tg_journal.specs.Live.{IsGap}
use Rattle.tg_journal.proofs.VertexLaws.{searched, gap_after, gap_alone}
use Rattle.tg_journal.proofs.vertices.Vertices.search.Goals as goal
use Rattle.tg_journal.proofs.vertices.Vertices.search.Goals.{in_default-via-in-Some+else-name-last, in_default-via-in_default}

-- the closure gives a vertex's name, and the slice is the vertices
pub returns-in-Some : goal.returns-in-Some
returns-in-Some c =
    let facts = c.binary_search_by_key.ensures in
    let by_key = facts.position (λ v. v.name) (answers_always _ _ _ (λ f a r g called. search rules)) in
    rw (← c.self.view_is, ← c.deref-in-Some.ensures.value) (searched c.deref-in-Some.result.now (rw c.deref-in-Some.ensures.value c.self.invariant) c.args.name c.binary_search_by_key.result facts.bound by_key)

-- after the last, or there is none
pub returns-in_default : goal.returns-in_default
returns-in_default c =
    let vs = c.self.inside.items.items in
    let read = c.last.ensures.value ∙ ap (λ vs. slice_get vs (length vs - 1)) c.deref.ensures.value in
    let all : c.len.result ≡ length vs = c.len.ensures ∙ sym c.deref.ensures.len ∙ ap length c.deref.ensures.value in
    let gap : IsGap vs c.args.name (length vs) = elim c.in_default.branch [
      | in_default-via-in-Some+else-name-last w ↦ gap_after vs c.args.name w.in-Some.last.now c.self.invariant (sym read ∙ ap option_copied w.in-Some.is) w.if-name-last.false
      | in_default-via-in_default w ↦ gap_alone vs c.args.name (sym read ∙ ap option_copied w.in_default.is)
    ] in
    record { found = tt; absent = rw (← c.self.view_is, all) gap }
