use Rattle.std.proofs.Common.{◌≡◌, ◌≢◌, ◌∙◌, ℕ, ◌+◌, ◌<◌, List, [], ◌∷◌, ◌++◌, length, Option, Some, None, sym, ap, subst, append_assoc, arith, length-append}
use Rattle.tg_text.specs.declared.source.Next.{Next}
use Rattle.tg_text.specs.declared.source.Next.TheVariants.{Byte}
use Rattle.tg_text.specs.Fetching.{IsOneLine}
use Rattle.tg_text.specs.Sinks.{KeepsBytes}
use Rattle.tg_text.specs.Sources.{TellsNext, failures_of}
use Rattle.tg_text.proofs.FetchLaws.{Begins}
use Rattle.tg_text.proofs.fetch.Lines.next_line_by_bytes.Goals as goal
use Rattle.tg_text.proofs.fetch.Lines.next_line_by_bytes.Goals.{else-byte-ne10-via-then-byte-ne10+else-len-eq-MOST_LINE_BYTES, else-byte-ne10-via-else-byte-ne10}

-- a line with one more byte, which is no line feed
one_more : (line : List ℕ) (byte : ℕ) → IsOneLine line → byte ≢ 10 → IsOneLine (line ++ byte ∷ [])
one_more [] byte one other = (other, tt)
one_more (b ∷ line) byte one other = (one.0, one_more line byte one.1 other)

-- the bytes began with the line and the byte that came next
begins_more : (old now after : Option (List ℕ)) (line : List ℕ) (byte : ℕ) → Begins old line now → TellsNext now (Byte byte) after → Begins old (line ++ byte ∷ []) after
begins_more None now after line byte begun told = tt
begins_more (Some bytes) now after line byte (rest, whole, is) told =
    let next : TellsNext (Some rest) (Byte byte) after = subst (λ (o : Option (List ℕ)). TellsNext o (Byte byte) after) is told in
    (next.0, whole ∙ ap (λ x. line ++ x) next.1 ∙ sym (append_assoc line (byte ∷ []) next.0), next.2)

keeps_on : (old now after : Option (List ℕ)) → KeepsBytes old now → KeepsBytes now after → KeepsBytes old after
keeps_on None now after before then = tt
keeps_on (Some bytes) now after before then = subst (λ (o : Option (List ℕ)). KeepsBytes o after) before then

pub loop-preserved : goal.loop-preserved
loop-preserved g c =
    let s = g.S.Source in
    let k = g.K.Sink in
    let so_far = c.loop.invariant in
    let byte = c.in-Byte.byte in
    let longer : length c.push.new.self ≡ length c.loop.line + 1 = ap length c.push.ensures ∙ length-append c.loop.line (byte ∷ []) in
    let few : length c.loop.line < 256 = elim c.else-byte-ne10.branch [
      | else-byte-ne10-via-then-byte-ne10+else-len-eq-MOST_LINE_BYTES w ↦ omega (arith, so_far.most, w.len-then-byte-ne10.ensures, w.if-len-eq-MOST_LINE_BYTES.false)
      | else-byte-ne10-via-else-byte-ne10 w ↦ absurd (c.if-byte-eq10.false w.if-byte-ne10.false)
    ] in
    let told : TellsNext (s.left c.loop.source) (Byte byte) (s.left c.next_byte.new.source) = subst (λ (n : Next). TellsNext (s.left c.loop.source) n (s.left c.next_byte.new.source)) c.in-Byte.is c.in-Ok.ensures.bytes in
    let none : failures_of c.in-Ok.next ≡ 0 = ap failures_of c.in-Byte.is in
    record {
      count = omega (arith, longer, so_far.count);
      most = omega (arith, longer, few);
      one = subst IsOneLine (sym c.push.ensures) (one_more c.loop.line byte so_far.one c.if-byte-eq10.false);
      room = omega (arith, longer, so_far.room, c.if-self-eq0.false);
      begins = subst (λ (l : List ℕ). Begins (s.left c.args.source.now) l (s.left c.next_byte.new.source)) (sym c.push.ensures)
          (begins_more (s.left c.args.source.now) (s.left c.loop.source) (s.left c.next_byte.new.source) c.loop.line byte so_far.begins told);
      taken = keeps_on (k.taken c.args.sink.now) (k.taken c.loop.sink) (k.taken c.next_byte.new.sink) so_far.taken c.in-Ok.ensures.taken;
      written = c.in-Ok.ensures.written ∙ so_far.written;
      failures = omega (arith, c.in-Ok.ensures.read_failures, none, so_far.failures);
      asked = omega (arith, c.in-Ok.ensures.asked, longer, so_far.asked);
    }
