-- Parts that end where a line does, and what is read of them with more bytes behind.
use Rattle.std.proofs.Common.{◌≡◌, ◌≢◌, ◌∙◌, inl, inr, ◌⊎◌, ℕ, suc, ◌+◌, ◌-◌, ◌<◌, ◌≤◌, Bool, true, false, List, [], ◌∷◌, ◌++◌, get_or, length, take, Option, Some, None, Result, Ok, Err, eq-eqb, refl, sym, ap, subst, arith, append_assoc, append-nil, length-append}
use Rattle.std.proofs.lemmas.Bool.{eqb-true, false≢true}
use Rattle.std.proofs.lemmas.List.{take_all, take_more}
use Rattle.std.proofs.lemmas.Option.{same_Some}
use Rattle.std.specs.Io.KnownBytes.{Consumes}
use Rattle.memchr.specs.Find.{Nowhere, Passes, is_byte}
use Rattle.tg_text.specs.declared.line.Line.{Line}
use Rattle.tg_text.specs.declared.fault.ScriptFault.{ScriptFault}
use Rattle.tg_text.specs.declared.fault.ScriptFault.TheVariants as fault
use Rattle.tg_text.specs.Fetching.{IsOneLine}
use Rattle.tg_text.specs.Grammar.{LineFits, line_text}
use Rattle.tg_text.specs.Reading.{Ends, Reads, opening_after}
use Rattle.tg_lasting.specs.Chunks.{AreWholeLines, ChunkCame, EndsWithFeed, IsTooLongLine, MayEndPart, TakesHeld, last_from}
use Rattle.tg_lasting.specs.declared.chunk.Came.TheVariants as came

-- ---- where a part ends

pub last-append : (d : ℕ) (a b : List ℕ) → last_from d (a ++ b) ≡ last_from (last_from d a) b
last-append d [] b = refl
last-append d (x ∷ a) b = last-append x a b

pub last_feed : (d : ℕ) (a b : List ℕ) → last_from d (a ++ 10 ∷ b) ≡ last_from 10 b
last_feed d a b = last-append d a (10 ∷ b)

pub whole_ended : (a b : List ℕ) → EndsWithFeed b → AreWholeLines (a ++ b)
whole_ended a b ends =
    let P : List ℕ → Type 0 = λ x. last_from 10 (a ++ x) ≡ 10 in
    subst P (sym ends.1) (ap (last_from 10) (sym (append_assoc a ends.0 (10 ∷ []))) ∙ last_feed 10 (a ++ ends.0) [])

-- a line that isn't empty has another last byte
no_feed_last : (d : ℕ) (byte : ℕ) (text : List ℕ) → IsOneLine (byte ∷ text) → last_from d (byte ∷ text) ≡ 10 → ⊥
no_feed_last d byte [] one is = one.0 is
no_feed_last d byte (next ∷ text) one is = no_feed_last byte next text one.1 is

-- a line has no line feed
no_feed_in : (a b : List ℕ) → IsOneLine (a ++ 10 ∷ b) → ⊥
no_feed_in [] b one = one.0 refl
no_feed_in (x ∷ a) b one = no_feed_in a b one.1

pub one_line-append : (a b : List ℕ) → IsOneLine a → IsOneLine b → IsOneLine (a ++ b)
one_line-append [] b p q = q
one_line-append (x ∷ a) b p q = (p.0, one_line-append a b p.1 q)

-- ---- with more bytes behind

-- where reading ends is the same
ends_more : (workers room count : ℕ) (opening : Bool) (chunk rest : List ℕ) (f : ScriptFault) (left : List ℕ) → AreWholeLines chunk ⊎ IsTooLongLine chunk → Ends workers room count opening chunk (Some f) left → Ends workers room count opening (chunk ++ rest) (Some f) (left ++ rest)
ends_more workers room count opening chunk rest (fault.BadLine number) left whole (same, text, one, few, inl h) =
    (same, text, one, few, inl (ap (λ (x : List ℕ). x ++ rest) h.0 ∙ append_assoc text (10 ∷ left) rest, h.1, h.2))
ends_more workers room count opening chunk rest (fault.BadLine number) left (inr long) (same, text, one, few, inr h) =
    let size : length chunk ≡ length text = ap length h.0 in absurd (omega (arith, long.long, few, size))
ends_more workers room count opening chunk rest (fault.BadLine number) left (inl whole) (same, [], one, few, inr h) = absurd (h.3 refl)
ends_more workers room count opening chunk rest (fault.BadLine number) left (inl whole) (same, byte ∷ text, one, few, inr h) =
    absurd (no_feed_last 10 byte text one (ap (last_from 10) (sym h.0) ∙ whole))
ends_more workers room count opening chunk rest (fault.LineTooLong number) left whole h =
    (h.0, h.1, ap (λ (x : List ℕ). x ++ rest) h.2 ∙ append_assoc h.1 left rest, h.3, h.4, h.5)
ends_more workers room count opening chunk rest fault.InputTooLong left whole h =
    (h.0, h.1, ap (λ (x : List ℕ). x ++ rest) h.2 ∙ append_assoc h.0 (h.1 ∷ left) rest, h.3, h.4, h.5)
ends_more workers room count opening chunk rest fault.ReadFailed left whole h = (h.0, ap (λ (x : List ℕ). x ++ rest) h.1 ∙ append_assoc h.0 left rest, h.2, h.3, h.4)
ends_more workers room count opening chunk rest fault.WriteFailed left whole h = (h.0, ap (λ (x : List ℕ). x ++ rest) h.1 ∙ append_assoc h.0 left rest, h.2, h.3, h.4)
ends_more workers room count opening chunk rest f left whole h = ap (λ (x : List ℕ). x ++ rest) h

-- and so are the lines
pub reads_more : (lines : List Line) (workers room count : ℕ) (opening : Bool) (chunk rest : List ℕ) (f : ScriptFault) (left : List ℕ) → AreWholeLines chunk ⊎ IsTooLongLine chunk → Reads workers room count opening chunk lines (Some f) left → Reads workers room count opening (chunk ++ rest) lines (Some f) (left ++ rest)
reads_more [] workers room count opening chunk rest f left whole h = ends_more workers room count opening chunk rest f left whole h
reads_more (l ∷ lines) workers room count opening chunk rest f left (inr long) h =
    let one : IsOneLine (line_text l ++ 10 ∷ h.0) = subst IsOneLine h.1 long.line in absurd (no_feed_in (line_text l) h.0 one)
reads_more (l ∷ lines) workers room count opening chunk rest f left (inl whole) h =
    let later : AreWholeLines h.0 = sym (last_feed 10 (line_text l) h.0) ∙ ap (last_from 10) (sym h.1) ∙ whole in (
      h.0 ++ rest,
      ap (λ (x : List ℕ). x ++ rest) h.1 ∙ append_assoc (line_text l) (10 ∷ h.0) rest,
      h.2,
      h.3,
      h.4,
      reads_more lines workers (room - (length (line_text l) + 1)) (count + 1) (opening_after opening l) h.0 rest f left (inl later) h.5,
    )

-- where nothing more is behind, they are too
pub reads_all : (lines : List Line) (workers room count : ℕ) (opening : Bool) (chunk rest : List ℕ) (last : Bool) (f : ScriptFault) (left : List ℕ) → MayEndPart chunk last rest → Reads workers room count opening chunk lines (Some f) left → Reads workers room count opening (chunk ++ rest) lines (Some f) (left ++ rest)
reads_all lines workers room count opening chunk rest last f left (inr whole) h = reads_more lines workers room count opening chunk rest f left whole.1 h
reads_all lines workers room count opening chunk rest last f left (inl ended) h =
    let B : List ℕ → Type 0 = λ x. Reads workers room count opening x lines (Some f) left in
    let L : List ℕ → Type 0 = λ x. Reads workers room count opening (chunk ++ rest) lines (Some f) x in
    let same : chunk ++ rest ≡ chunk = ap (λ (x : List ℕ). chunk ++ x) ended.1 ∙ append-nil chunk in
    let none : left ++ rest ≡ left = ap (λ (x : List ℕ). left ++ x) ended.1 ∙ append-nil left in
    subst L (sym none) (subst B (sym same) h)

-- reading may stop at any line, with a fault that may come there
pub reads_cut : (f : ScriptFault) → ((workers room count : ℕ) (opening : Bool) (bytes : List ℕ) → Ends workers room count opening bytes (Some f) bytes) → (lines : List Line) (workers room count : ℕ) (opening : Bool) (bytes : List ℕ) (end : Option ScriptFault) (left : List ℕ) → Reads workers room count opening bytes lines end left
    → (last : List ℕ) × Reads workers room count opening bytes lines (Some f) last
reads_cut f stop [] workers room count opening bytes end left h = (bytes, stop workers room count opening bytes)
reads_cut f stop (l ∷ lines) workers room count opening bytes end left h =
    let k = reads_cut f stop lines workers (room - (length (line_text l) + 1)) (count + 1) (opening_after opening l) h.0 end left h.5 in
    (k.0, (h.0, h.1, h.2, h.3, h.4, k.1))

pub stop_kept : (workers room count : ℕ) (opening : Bool) (bytes : List ℕ) → Ends workers room count opening bytes (Some fault.OutOfMemory) bytes
stop_kept workers room count opening bytes = refl

pub stop_writing : (workers room count : ℕ) (opening : Bool) (bytes : List ℕ) → Ends workers room count opening bytes (Some fault.WriteFailed) bytes
stop_writing workers room count opening bytes = ([], refl, tt, omega arith, omega arith)

pub stop_reading : (workers room count : ℕ) (opening : Bool) (bytes : List ℕ) → Ends workers room count opening bytes (Some fault.ReadFailed) bytes
stop_reading workers room count opening bytes = ([], refl, tt, omega arith, omega arith)

-- after the last part nothing is left
pub last_ended : (chunk rest : List ℕ) (last : Bool) → MayEndPart chunk last rest → last ≡ true → rest ≡ []
last_ended chunk rest last (inl ended) is = ended.1
last_ended chunk rest last (inr other) is = absurd (false≢true (sym other.0 ∙ is))

-- ---- what a reader holds

pub ends_at : (bytes : List ℕ) (at : ℕ) → at < length bytes → is_byte 10 (get_or bytes at 0) ≡ true → EndsWithFeed (take (at + 1) bytes)
ends_at bytes at within is = (take at bytes, take_more bytes at 0 within ∙ ap (λ (byte : ℕ). take at bytes ++ byte ∷ []) (eqb-true (get_or bytes at 0) 10 is))

no_feed : (bytes : List ℕ) → ((k : ℕ) → k < length bytes → is_byte 10 (get_or bytes k 0) ≡ true → ⊥) → IsOneLine bytes
no_feed [] none = tt
no_feed (byte ∷ bytes) none = (λ is. none 0 (omega arith) (eq-eqb byte 10 is), no_feed bytes (λ k lt. none (suc k) (omega (arith, lt))))

pub one_line_held : (bytes : List ℕ) (count : ℕ) → count ≡ length bytes → Nowhere (Passes (is_byte 10) bytes) 0 (length bytes) → IsOneLine (take count bytes)
one_line_held bytes count is none =
    let P : List ℕ → Type 0 = λ x. IsOneLine x in
    subst P (sym (take_all count bytes (omega (arith, is)))) (no_feed bytes (λ k lt. none k (omega arith) lt))

known_rest : (old new : Option (List ℕ)) (taken bytes : List ℕ) → Consumes old new taken → old ≡ Some bytes → (rest : List ℕ) × (new ≡ Some rest) × (bytes ≡ taken ++ rest)
known_rest None new taken bytes moved known = absurd cc
known_rest (Some xs) None taken bytes moved known = absurd moved
known_rest (Some xs) (Some ys) taken bytes moved known = (ys, refl, sym (same_Some xs bytes known) ∙ moved)

-- what is known of a reader that gave these bytes
pub held_lines_came : (old new : Option (List ℕ)) (taken before after : List ℕ) → Consumes old new taken → after ≡ before ++ taken → EndsWithFeed taken → TakesHeld old new before after (Ok came.Lines)
held_lines_came old new taken before after moved is ends = λ bytes known.
    let k = known_rest old new taken bytes moved known in (k.0, k.1, (taken, k.2, is, ends))

pub held_piece_came : (old new : Option (List ℕ)) (taken before after : List ℕ) → Consumes old new taken → after ≡ before ++ taken → IsOneLine taken → TakesHeld old new before after (Ok came.Piece)
held_piece_came old new taken before after moved is one = λ bytes known.
    let k = known_rest old new taken bytes moved known in (k.0, k.1, (taken, k.2, is, one))

pub held_lacking : (old new : Option (List ℕ)) (taken before after : List ℕ) → Consumes old new taken → TakesHeld old new before after (Err fault.OutOfMemory)
held_lacking old new taken before after moved = λ bytes known.
    let k = known_rest old new taken bytes moved known in (k.0, k.1, tt)

-- ---- pieces, one after the other

-- the bytes of a line came so far
pub record PiecesCame (bytes chunk : List ℕ) (left : Option (List ℕ)) : Type 0 where
  pub rest : List ℕ
  pub leaves : left ≡ Some rest
  pub split : bytes ≡ chunk ++ rest
  pub line : IsOneLine chunk

split_more : (bytes chunk taken rest left after : List ℕ) → bytes ≡ chunk ++ left → left ≡ taken ++ rest → after ≡ chunk ++ taken → bytes ≡ after ++ rest
split_more bytes chunk taken rest left after split is came =
    split ∙ ap (λ (x : List ℕ). chunk ++ x) is ∙ sym (append_assoc chunk taken rest) ∙ ap (λ (x : List ℕ). x ++ rest) (sym came)

pub piece_more : (bytes chunk after : List ℕ) (left left' : Option (List ℕ)) → PiecesCame bytes chunk left → TakesHeld left left' chunk after (Ok came.Piece) → PiecesCame bytes after left'
piece_more bytes chunk after left left' so held =
    let k = held so.rest so.leaves in
    let L : List ℕ → Type 0 = λ x. IsOneLine x in
    record {
      rest = k.0;
      leaves = k.1;
      split = split_more bytes chunk k.2.0 k.0 so.rest after so.split k.2.1 k.2.2;
      line = subst L (sym k.2.2) (one_line-append chunk k.2.0 so.line k.2.3);
    }

pub lines_came : (bytes chunk after : List ℕ) (left left' : Option (List ℕ)) → PiecesCame bytes chunk left → TakesHeld left left' chunk after (Ok came.Lines) → (rest : List ℕ) × (left' ≡ Some rest) × ChunkCame bytes after (Ok false) rest
lines_came bytes chunk after left left' so held =
    let k = held so.rest so.leaves in
    let W : List ℕ → Type 0 = λ x. AreWholeLines x in
    (k.0, k.1, (split_more bytes chunk k.2.0 k.0 so.rest after so.split k.2.1 k.2.2, inr (refl, inl (subst W (sym k.2.2) (whole_ended chunk k.2.0 k.2.3)))))

pub end_came : (bytes chunk after : List ℕ) (left left' : Option (List ℕ)) → PiecesCame bytes chunk left → TakesHeld left left' chunk after (Ok came.End) → (rest : List ℕ) × (left' ≡ Some rest) × ChunkCame bytes after (Ok true) rest
end_came bytes chunk after left left' so held =
    let k = held so.rest so.leaves in
    (k.0, k.1, (so.split ∙ ap (λ (x : List ℕ). chunk ++ x) (k.2.0 ∙ sym k.2.1) ∙ ap (λ (x : List ℕ). x ++ k.0) (sym k.2.2), inl (refl, k.2.1)))

pub long_came : (bytes chunk : List ℕ) (left : Option (List ℕ)) → 256 < length chunk → PiecesCame bytes chunk left → (rest : List ℕ) × (left ≡ Some rest) × ChunkCame bytes chunk (Ok false) rest
long_came bytes chunk left long so = (so.rest, so.leaves, (so.split, inr (refl, inr (record { line = so.line; long = long }))))

pub held_failed : (bytes chunk after : List ℕ) (left left' : Option (List ℕ)) (f : ScriptFault) → PiecesCame bytes chunk left → TakesHeld left left' chunk after (Err f) → (rest : List ℕ) × (left' ≡ Some rest) × ChunkCame bytes after (Err f) rest
held_failed bytes chunk after left left' fault.ReadFailed so held = let k = held so.rest so.leaves in (k.0, k.1, tt)
held_failed bytes chunk after left left' fault.OutOfMemory so held = let k = held so.rest so.leaves in (k.0, k.1, tt)
held_failed bytes chunk after left left' f so held = let k = held so.rest so.leaves in absurd k.2

pub no_pieces : (bytes chunk : List ℕ) (left : Option (List ℕ)) → chunk ≡ [] → left ≡ Some bytes → PiecesCame bytes chunk left
no_pieces bytes chunk left none leaves =
    let C : List ℕ → Type 0 = λ x. PiecesCame bytes x left in
    subst C (sym none) (record { rest = bytes; leaves = leaves; split = refl; line = tt })
