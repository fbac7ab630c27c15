-- How the next line of a script stands to what is read of its bytes.
use Rattle.std.proofs.Common.{◌≡◌, ◌≢◌, ℕ, ◌+◌, ◌-◌, ◌≤◌, Bool, List, [], ◌∷◌, ◌++◌, length, Option, Some, None, refl, sym, ap, ◌∙◌, subst, arith, length-append, append_assoc, append-nil, Ok, Err, IsErrAnd}
use Rattle.tg_text.specs.declared.line.Line.{Line}
use Rattle.tg_text.specs.declared.fault.ScriptFault.{ScriptFault}
use Rattle.tg_text.specs.declared.source.Fetched.{Fetched}
use Rattle.tg_text.specs.declared.source.Fetched.TheVariants as fetched
use Rattle.tg_script.specs.declared.script.Script.{Script}
use Rattle.tg_text.specs.Fetching.{IsOneLine, Fetches, FetchesKnown}
use Rattle.tg_text.specs.Grammar.{line_text}
use Rattle.tg_text.specs.declared.fetch.TheConstants.{MOST_BYTES}
use Rattle.tg_text.specs.Reading.{Ends, Reads, ReadsScript, opening_after}
use Rattle.std.specs.List.{flat_map}
use Rattle.std.proofs.lemmas.List.Concat.{flat_map-append}
use Rattle.tg_text.specs.declared.fault.ScriptFault.TheVariants as fault
use Rattle.tg_text.specs.Sinks.{KeepsBytes, Wrote}
use Rattle.std.specs.Prelude.{IfErr, Result}
use Rattle.std.proofs.lemmas.Result.{err_from_is_err_and}
use Rattle.tg_script.specs.Lines.{CountsFailures, IsRestAfter, IsNewScript, NextLine, OnlyReads, PassesLine, ReadsFrom, line_bytes, read_failures, write_failures}
use Rattle.tg_script.specs.Inner.Beginning.{ReadsFirst, ReadsFront}

one_more : (text : List ℕ) (byte : ℕ) → IsOneLine text → byte ≢ 10 → IsOneLine (text ++ byte ∷ [])
one_more [] byte one other = (other, tt)
one_more (x ∷ text) byte one other = (one.0, one_more text byte one.1 other)

-- a line that is too long, with its 257th byte
abbrev pub IsTooLong : ℕ → List ℕ → List ℕ → Type 0
IsTooLong room bytes left = (text : List ℕ) × (bytes ≡ text ++ left) × IsOneLine text × (length text ≡ 257) × (257 ≤ room)

pub too_long : (room : ℕ) (bytes text left : List ℕ) → Fetches room bytes fetched.LineTooLong text left → IsTooLong room bytes left
too_long room bytes text left h =
    (text ++ h.0 ∷ [], h.1 ∙ sym (append_assoc text (h.0 ∷ []) left), one_more text h.0 h.3 h.4, length-append text (h.0 ∷ []) ∙ ap (λ n. n + 1) h.2, omega (arith, h.5))

-- where it is known which bytes were left, it is known what is left now
pub fetches_known : (room : ℕ) (before : Option (List ℕ)) (bytes : List ℕ) (outcome : Fetched) (text : List ℕ) (after : Option (List ℕ)) → before ≡ Some bytes → FetchesKnown room before outcome text after → (rest : List ℕ) × (after ≡ Some rest) × Fetches room bytes outcome text rest
fetches_known room before bytes outcome text after known h =
    let P : Option (List ℕ) → Type 0 = λ o. FetchesKnown room o outcome text after in
    subst P known h

-- ---- many lines

-- what is read from a script of which no line was read is the whole of it
pub fresh_front : (workers : ℕ) (s : Script) (bytes : List ℕ) → IsNewScript s workers → ReadsFront workers bytes [] s bytes
fresh_front workers s bytes fresh lines end left h =
    let A : ℕ → Type 0 = λ x. Reads x s.lines.room s.count s.opening bytes lines end left in
    let B : ℕ → Type 0 = λ x. Reads workers x s.count s.opening bytes lines end left in
    let C : ℕ → Type 0 = λ x. Reads workers MOST_BYTES x s.opening bytes lines end left in
    let D : Bool → Type 0 = λ x. Reads workers MOST_BYTES 0 x bytes lines end left in
    subst D fresh.opening (subst C fresh.count (subst B fresh.room (subst A fresh.workers h)))

pub front_more : (workers : ℕ) (t u : Script) (bytes rest after : List ℕ) (front : List Line) (l : Line) → ReadsFront workers bytes front t rest → PassesLine t rest l u after → ReadsFront workers bytes (front ++ l ∷ []) u after
front_more workers t u bytes rest after front l b p =
    λ lines end left h. subst (λ x. ReadsScript workers bytes x end left) (sym (append_assoc front (l ∷ []) lines)) (b (l ∷ lines) end left (p lines end left h))

-- nothing more comes
pub front_all : (workers : ℕ) (t : Script) (bytes rest : List ℕ) (front : List Line) (end : Option ScriptFault) (left : List ℕ) → ReadsFront workers bytes front t rest → ReadsFrom t rest [] end left → ReadsScript workers bytes front end left
front_all workers t bytes rest front end left b h = subst (λ x. ReadsScript workers bytes x end left) (append-nil front) (b [] end left h)

-- these lines come after a further one
pub front_then : (workers : ℕ) (t : Script) (bytes rest : List ℕ) (front : List Line) (l : Line) (more : List Line) (end : Option ScriptFault) (left : List ℕ) → ReadsFront workers bytes (front ++ l ∷ []) t rest → ReadsFrom t rest more end left → ReadsScript workers bytes (front ++ l ∷ more) end left
front_then workers t bytes rest front l more end left b h = subst (λ x. ReadsScript workers bytes x end left) (append_assoc front (l ∷ []) more) (b more end left h)

-- a further line comes, or none
pub front_next : (workers : ℕ) (t u : Script) (bytes rest after : List ℕ) (front : List Line) (next : Option Line) → ReadsFront workers bytes front t rest → NextLine t rest (Ok next) u after → ReadsFirst workers bytes front next u after
front_next workers t u bytes rest after front None b h = front_all workers t bytes rest front None after b h
front_next workers t u bytes rest after front (Some l) b h = front_more workers t u bytes rest after front l b h

-- ---- what is left behind lines

-- where reading stopped right after lines, what is left is all after them
pub reads_behind : (lines : List Line) (workers room count : ℕ) (opening : Bool) (bytes left : List ℕ) → Reads workers room count opening bytes lines (Some fault.OutOfMemory) left → IsRestAfter lines bytes left
reads_behind [] workers room count opening bytes left h = sym h
reads_behind (l ∷ lines) workers room count opening bytes left h =
    h.1 ∙ ap (λ x. line_text l ++ 10 ∷ x) (reads_behind lines workers (room - (length (line_text l) + 1)) (count + 1) (opening_after opening l) h.0 left h.5)
    ∙ sym (append_assoc (line_text l) (10 ∷ []) (flat_map line_bytes lines ++ left)) ∙ sym (append_assoc (line_bytes l) (flat_map line_bytes lines) left)

pub behind-append : (front more : List Line) (bytes rest left : List ℕ) → IsRestAfter front bytes rest → IsRestAfter more rest left → IsRestAfter (front ++ more) bytes left
behind-append front more bytes rest left f m =
    f ∙ ap (λ x. flat_map line_bytes front ++ x) m ∙ sym (append_assoc (flat_map line_bytes front) (flat_map line_bytes more) left)
    ∙ ap (λ x. x ++ left) (sym (flat_map-append line_bytes front more))

-- reading may end so after any line, with nothing more read
abbrev pub MayStop : ScriptFault → Type 0
MayStop f = (workers room count : ℕ) (opening : Bool) (bytes : List ℕ) → Ends workers room count opening bytes (Some f) bytes

-- so it may at the input's end
pub reads_stop : (f : ScriptFault) → MayStop f → (lines : List Line) (workers room count : ℕ) (opening : Bool) (bytes left : List ℕ) → Reads workers room count opening bytes lines None left → Reads workers room count opening bytes lines (Some f) left
reads_stop f stop [] workers room count opening bytes left h = subst (λ x. Ends workers room count opening bytes (Some f) x) (h.0 ∙ sym h.1) (stop workers room count opening bytes)
reads_stop f stop (l ∷ lines) workers room count opening bytes left h =
    (h.0, h.1, h.2, h.3, h.4, reads_stop f stop lines workers (room - (length (line_text l) + 1)) (count + 1) (opening_after opening l) h.0 left h.5)

pub may_stop_writing : MayStop fault.WriteFailed
may_stop_writing = λ w r c o b. ([], refl, tt, omega arith, omega arith)

-- at the input's end nothing is left
pub reads_end : (lines : List Line) (workers room count : ℕ) (opening : Bool) (bytes left : List ℕ) → Reads workers room count opening bytes lines None left → left ≡ []
reads_end [] workers room count opening bytes left h = h.1
reads_end (l ∷ lines) workers room count opening bytes left h = reads_end lines workers (room - (length (line_text l) + 1)) (count + 1) (opening_after opening l) h.0 left h.5

pub keeps_same : (a : Option (List ℕ)) → KeepsBytes a a
keeps_same None = tt
keeps_same (Some xs) = refl

pub keeps_then : (a b c : Option (List ℕ)) → KeepsBytes a b → KeepsBytes b c → KeepsBytes a c
keeps_then None b c h k = tt
keeps_then (Some xs) b c h k = let P : Option (List ℕ) → Type 0 = λ x. KeepsBytes x c in subst P h k

-- what was known to be taken is so still
pub keeps_known : (mid after : Option (List ℕ)) (known : List ℕ) → mid ≡ Some known → KeepsBytes mid after → after ≡ Some known
keeps_known mid after known is keeps = let P : Option (List ℕ) → Type 0 = λ x. KeepsBytes x after in subst P is keeps

-- and what was written is
pub wrote_keeps : (before mid after : Option (List ℕ)) (bytes : List ℕ) → Wrote before bytes mid → KeepsBytes mid after → Wrote before bytes after
wrote_keeps None mid after bytes w k = tt
wrote_keeps (Some xs) mid after bytes w k = keeps_known mid after (xs ++ bytes) w k

-- ---- more lines are read

-- what a call answered that handed a fault on
pub err_is : {T F : Type 0} (r : Result T F) (f : F) → IsErrAnd r (λ e. e ≡ f) → r ≡ Err f
err_is r f h = let e = err_from_is_err_and r h in e.1 ∙ ap Err e.2

pub no_failures : {S K : Type 0} (read : S → ℕ) (wrote : K → ℕ) (source : S) (sink : K) → CountsFailures read wrote source source sink sink 0 0
no_failures read wrote source sink = record { read_failed = omega arith; write_failed = omega arith }

pub reads_none : {S K T : Type 0} {met : ScriptFault → Type 0} {read : S → ℕ} {wrote : K → ℕ} {takes : K → Option (List ℕ)} {source : S} {sink : K} {done : T} → OnlyReads met read wrote takes source source sink sink (Ok done)
reads_none {read = read} {wrote = wrote} {takes = takes} {source = source} {sink = sink} = record {
  fault = tt;
  failures = no_failures read wrote source sink;
  taken = keeps_same (takes sink);
}

-- Lines were read with no fault, and then more: this outcome tells their failures, and meets no fault but one of these.
pub reads_then : {S K T U V : Type 0} {met other : ScriptFault → Type 0} {read : S → ℕ} {wrote : K → ℕ} {takes : K → Option (List ℕ)} {source mid source' : S} {sink between sink' : K} {done : T} {r : Result U ScriptFault} {result : Result V ScriptFault} → OnlyReads met read wrote takes source mid sink between (Ok done) → OnlyReads other read wrote takes mid source' between sink' r → IfErr result met → read_failures r ≡ read_failures result → write_failures r ≡ write_failures result → OnlyReads met read wrote takes source source' sink sink' result
reads_then {takes = takes} {sink = sink} {between = between} {sink' = sink'} first last fault reads writes = record {
  fault = fault;
  failures = record {
    read_failed = omega (arith, last.failures.read_failed, first.failures.read_failed, reads);
    write_failed = omega (arith, last.failures.write_failed, first.failures.write_failed, writes);
  };
  taken = keeps_then (takes sink) (takes between) (takes sink') first.taken last.taken;
}
