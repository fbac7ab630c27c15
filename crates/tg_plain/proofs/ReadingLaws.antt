-- How the next line of a script stands to what is read of its bytes.
use Rattle.std.proofs.Common.{◌≡◌, ◌≢◌, ℕ, ◌+◌, ◌≤◌, Bool, true, false, true≢false, List, [], ◌∷◌, ◌++◌, length, map, Option, Some, None, IfOk, refl, sym, ap, ◌∙◌, subst, arith, length-append, append_assoc, append-nil, Result, Ok, Err, IsErrAnd, OnErr, OnOk, Vec, Global}
use Rattle.std.proofs.lemmas.List.{map-append}
use Rattle.std.proofs.lemmas.Result.{err_from_is_err_and}
use Rattle.std.specs.Prelude.{is_err, ◌==◌, if◌then◌else◌}
use Rattle.std.specs.Io.Buffered.{reader_buffer, reader_capacity, reader_inner, reader_remaining}
use Rattle.std.specs.Io.KnownBytes.{prepend_known}
use Rattle.std.specs.declared.io.buffered.BufReader.{BufReader}
use Rattle.tg_text.specs.declared.fault.ScriptFault.TheVariants as fault
use Rattle.tg_model.specs.declared.edge.Edge.{Edge}
use Rattle.tg_text.specs.declared.line.Line.{Line}
use Rattle.tg_text.specs.declared.line.Line.TheVariants as line
use Rattle.tg_text.specs.declared.fault.ScriptFault.{ScriptFault}
use Rattle.tg_text.specs.declared.source.Fetched.{Fetched}
use Rattle.tg_text.specs.declared.source.Fetched.TheVariants as fetched
use Rattle.tg_text.specs.declared.fetch.TheConstants.{MOST_BYTES}
use Rattle.tg_text.specs.Fetching.{IsOneLine, Fetches, FetchesKnown}
use Rattle.tg_text.specs.declared.stock.StockItem.{StockItem}
use Rattle.tg_text.specs.Reading.{MayStand, Reads, ReadsScript, opening_after}
use Rattle.tg_plain.specs.declared.reading.Reading.{Reading}
use Rattle.tg_plain.specs.declared.script.Script.{Script}
use Rattle.tg_plain.specs.declared.script.ScriptLine.{ScriptLine}
use Rattle.tg_plain.specs.declared.fault.PlainFault.{PlainFault}
use Rattle.tg_plain.specs.declared.options.PlainOptions.{PlainOptions}
use Rattle.tg_plain.specs.declared.outcome.Outcome.{Outcome}
use Rattle.tg_plain.specs.Lines.{AreNumbered, IsEmptyScript, IsNumbered, IsOutcome, IsOutcomeOf, IsReadOf, NamesBoxes, RunsOn, all_lines, lines_of}
use Rattle.tg_plain.proofs.LineLaws.{numbers_more}
use Rattle.tg_plain.specs.Inner.Reading.{AddsLine, AddsOther, HasLinesOf, HasNoLine, IsNewReading, IsReadAs, KeepsOptions, MayAddLine, PassesPlainLine, ReadsPlainFrom, ReadsPlainFront}

one_more : (text : List ℕ) (byte : ℕ) → IsOneLine text → byte ≢ 10 → IsOneLine (text ++ byte ∷ [])
one_more [] byte one other = (other, tt)
one_more (x ∷ text) byte one other = (one.0, one_more text byte one.1 other)

-- a line that is too long, with its 257th byte
abbrev pub IsTooLong : ℕ → List ℕ → List ℕ → Type 0
IsTooLong room bytes left = (text : List ℕ) × (bytes ≡ text ++ left) × IsOneLine text × (length text ≡ 257) × (257 ≤ room)

pub too_long : (room : ℕ) (bytes text left : List ℕ) → Fetches room bytes fetched.LineTooLong text left → IsTooLong room bytes left
too_long room bytes text left h =
    (text ++ h.0 ∷ [], h.1 ∙ sym (append_assoc text (h.0 ∷ []) left), one_more text h.0 h.3 h.4, length-append text (h.0 ∷ []) ∙ ap (λ n. n + 1) h.2, omega (arith, h.5))

-- where it is known which bytes were left, it is known what is left now
pub fetches_known : (room : ℕ) (before : Option (List ℕ)) (bytes : List ℕ) (outcome : Fetched) (text : List ℕ) (after : Option (List ℕ)) → before ≡ Some bytes → FetchesKnown room before outcome text after → (rest : List ℕ) × (after ≡ Some rest) × Fetches room bytes outcome text rest
fetches_known room before bytes outcome text after known h =
    let P : Option (List ℕ) → Type 0 = λ o. FetchesKnown room o outcome text after in
    subst P known h

-- what is read from a script of which no line was read is the whole of it
pub fresh_front : (workers : ℕ) (s : Reading) (bytes : List ℕ) → IsNewReading s workers → ReadsPlainFront workers bytes [] s bytes
fresh_front workers s bytes fresh lines end left h =
    let A : ℕ → Type 0 = λ x. Reads x s.lines.room s.count s.opening bytes lines end left in
    let B : ℕ → Type 0 = λ x. Reads workers x s.count s.opening bytes lines end left in
    let C : ℕ → Type 0 = λ x. Reads workers MOST_BYTES x s.opening bytes lines end left in
    let D : Bool → Type 0 = λ x. Reads workers MOST_BYTES 0 x bytes lines end left in
    subst D fresh.opening (subst C fresh.count (subst B fresh.room (subst A fresh.workers h)))

pub front_more : (workers : ℕ) (t u : Reading) (bytes rest after : List ℕ) (front : List Line) (l : Line) → ReadsPlainFront workers bytes front t rest → PassesPlainLine t rest l u after → ReadsPlainFront workers bytes (front ++ l ∷ []) u after
front_more workers t u bytes rest after front l b p =
    λ lines end left h. subst (λ x. ReadsScript workers bytes x end left) (sym (append_assoc front (l ∷ []) lines)) (b (l ∷ lines) end left (p lines end left h))

-- nothing more comes
pub front_all : (workers : ℕ) (t : Reading) (bytes rest : List ℕ) (front : List Line) (end : Option ScriptFault) (left : List ℕ) → ReadsPlainFront workers bytes front t rest → ReadsPlainFrom t rest [] end left → ReadsScript workers bytes front end left
front_all workers t bytes rest front end left b h = subst (λ x. ReadsScript workers bytes x end left) (append-nil front) (b [] end left h)

-- ---- the lines of a script

other_added : (s t : Script) (number : ℕ) (l : Line) → AddsOther s number l t → all_lines t ≡ all_lines s ++ l ∷ []
other_added s t number l h =
    let edges = map line.Edge s.edges.items in
    let line_of : ScriptLine → Line = λ (x : ScriptLine). x.line in
    let added : ScriptLine = record { number = number; line = l } in
    let lines : lines_of t ≡ lines_of s ++ l ∷ [] = ap (map line_of) h.1 ∙ map-append line_of s.lines.items (added ∷ []) in
    ap (λ (x : List Edge). map line.Edge x ++ lines_of t) h.0 ∙ ap (λ (x : List Line). edges ++ x) lines ∙ sym (append_assoc edges (lines_of s) (l ∷ []))

-- a line that may be added is after all others
pub line_added : (s t : Script) (number : ℕ) (l : Line) → MayAddLine s l → AddsLine s number l t → all_lines t ≡ all_lines s ++ l ∷ []
line_added s t number (line.Edge edge) may h =
    let edges = map line.Edge s.edges.items in
    let none : lines_of t ≡ [] = ap (map (λ l. l.line)) (h.1 ∙ may) in
    let was : lines_of s ≡ [] = ap (map (λ l. l.line)) may in
    ap (λ (x : List Line). map line.Edge t.edges.items ++ x) none ∙ append-nil (map line.Edge t.edges.items)
    ∙ ap (map line.Edge) h.0 ∙ map-append line.Edge s.edges.items (edge ∷ [])
    ∙ ap (λ (x : List Line). x ++ line.Edge edge ∷ []) (sym (ap (λ (x : List Line). edges ++ x) was ∙ append-nil edges))
line_added s t number (line.Create x label) may h = other_added s t number (line.Create x label) h
line_added s t number (line.Spawn x label) may h = other_added s t number (line.Spawn x label) h
line_added s t number (line.Plain x command) may h = other_added s t number (line.Plain x command) h
line_added s t number line.Full may h = other_added s t number line.Full h
line_added s t number line.Minor may h = other_added s t number line.Minor h

pub no_lines : (s : Script) → HasNoLine s → all_lines s ≡ []
no_lines s none = ap (λ (x : List Edge). map line.Edge x ++ lines_of s) none.0 ∙ ap (map (λ (l : ScriptLine). l.line)) none.1

-- where a line may stand it may be added
pub may_add : (s : Script) (l : Line) (workers : ℕ) (opening : Bool) → MayStand workers opening l → (opening ≡ true → s.lines.items ≡ []) → MayAddLine s l
may_add s (line.Edge edge) workers opening stands none = none stands.0
may_add s (line.Create x label) workers opening stands none = tt
may_add s (line.Spawn x label) workers opening stands none = tt
may_add s (line.Plain x command) workers opening stands none = tt
may_add s line.Full workers opening stands none = tt
may_add s line.Minor workers opening stands none = tt

closed : {A : Type 0} (opening : Bool) → opening ≡ false → opening ≡ true → A
closed opening is opened = absurd (true≢false (sym opened ∙ is))

-- where edge lines may come still, no other line came
pub still_open : (s t : Script) (number : ℕ) (l : Line) (opening after : Bool) → after ≡ opening_after opening l → AddsLine s number l t → (opening ≡ true → s.lines.items ≡ []) → after ≡ true → t.lines.items ≡ []
still_open s t number (line.Edge edge) opening after is adds none opened = adds.1 ∙ none (sym is ∙ opened)
still_open s t number (line.Create x label) opening after is adds none opened = closed after is opened
still_open s t number (line.Spawn x label) opening after is adds none opened = closed after is opened
still_open s t number (line.Plain x command) opening after is adds none opened = closed after is opened
still_open s t number line.Full opening after is adds none opened = closed after is opened
still_open s t number line.Minor opening after is adds none opened = closed after is opened

pub keeps_then : (s t u : Script) → KeepsOptions s t → KeepsOptions t u → KeepsOptions s u
keeps_then s t u k m = record {
  fault = m.fault ∙ k.fault;
  workers = m.workers ∙ k.workers;
  max_vertices = m.max_vertices ∙ k.max_vertices;
  stock = m.stock ∙ k.stock;
  endless = m.endless ∙ k.endless;
}

-- a line was read, and added
pub reads_added : (s t : Script) (r q : Reading) (bytes rest after : List ℕ) (number : ℕ) (l : Line) → t.workers ≡ s.workers → MayAddLine s l → AddsLine s number l t →
    ReadsPlainFront s.workers bytes (all_lines s) r rest → PassesPlainLine r rest l q after → ReadsPlainFront t.workers bytes (all_lines t) q after
reads_added s t r q bytes rest after number l workers may adds front passes =
    subst (λ (w : ℕ). ReadsPlainFront w bytes (all_lines t) q after) (sym workers)
    (subst (λ (x : List Line). ReadsPlainFront s.workers bytes x q after) (sym (line_added s t number l may adds)) (front_more s.workers r q bytes rest after (all_lines s) l front passes))

-- nothing was read yet
pub reads_fresh : (s : Script) (r : Reading) (bytes : List ℕ) → IsNewReading r s.workers → HasNoLine s → ReadsPlainFront s.workers bytes (all_lines s) r bytes
reads_fresh s r bytes fresh none = subst (λ (x : List Line). ReadsPlainFront s.workers bytes x r bytes) (sym (no_lines s none)) (fresh_front s.workers r bytes fresh)

-- ---- numbers

-- each line has its number, and so many were read
pub record IsCounted (s : Script) (so_far : ℕ) : Type 0 where
  pub numbered : IsNumbered s
  pub count : so_far ≡ length s.edges.items + length s.lines.items

pub counts_none : (s : Script) (count : ℕ) → HasNoLine s → count ≡ 0 → IsCounted s count
counts_none s count none zero =
    let edges : length s.edges.items ≡ 0 = ap (λ (x : List Edge). length x) none.0 in
    let lines : length s.lines.items ≡ 0 = ap (λ (x : List ScriptLine). length x) none.1 in
    record {
      numbered = subst (AreNumbered (length s.edges.items + 1)) (sym none.1) tt;
      count = omega (arith, zero, edges, lines);
    }

other_counted : (s t : Script) (count : ℕ) (l : Line) → AddsOther s (count + 1) l t → IsCounted s count → IsCounted t (count + 1)
other_counted s t count l adds was =
    let added : ScriptLine = record { number = count + 1; line = l } in
    let edges : length t.edges.items ≡ length s.edges.items = ap (λ (x : List Edge). length x) adds.0 in
    let lines : length t.lines.items ≡ length s.lines.items + 1 = ap (λ (x : List ScriptLine). length x) adds.1 ∙ length-append s.lines.items (added ∷ []) in
    let next : count + 1 ≡ (length s.edges.items + 1) + length s.lines.items = omega (arith, was.count) in
    record {
      numbered =
          subst (λ (n : ℕ). AreNumbered (n + 1) t.lines.items) (sym edges)
          (subst (AreNumbered (length s.edges.items + 1)) (sym adds.1) (numbers_more (length s.edges.items + 1) s.lines.items added was.numbered next));
      count = omega (arith, was.count, edges, lines);
    }

-- one line more was read, and added
pub counts_more : (s t : Script) (count : ℕ) (l : Line) → MayAddLine s l → AddsLine s (count + 1) l t → IsCounted s count → IsCounted t (count + 1)
counts_more s t count (line.Edge edge) may adds was =
    let none : t.lines.items ≡ [] = adds.1 ∙ may in
    let edges : length t.edges.items ≡ length s.edges.items + 1 = ap (λ (x : List Edge). length x) adds.0 ∙ length-append s.edges.items (edge ∷ []) in
    let lines : length t.lines.items ≡ length s.lines.items = ap (λ (x : List ScriptLine). length x) adds.1 in
    record {
      numbered = subst (AreNumbered (length t.edges.items + 1)) (sym none) tt;
      count = omega (arith, was.count, edges, lines);
    }
counts_more s t count (line.Create x label) may adds was = other_counted s t count (line.Create x label) adds was
counts_more s t count (line.Spawn x label) may adds was = other_counted s t count (line.Spawn x label) adds was
counts_more s t count (line.Plain x command) may adds was = other_counted s t count (line.Plain x command) adds was
counts_more s t count line.Full may adds was = other_counted s t count line.Full adds was
counts_more s t count line.Minor may adds was = other_counted s t count line.Minor adds was

-- the same lines have the same numbers
pub numbered_same : (s t : Script) → HasLinesOf s t → IsNumbered s → IsNumbered t
numbered_same s t same numbered =
    subst (λ (x : List Edge). AreNumbered (length x + 1) t.lines.items) (sym same.0)
    (subst (AreNumbered (length s.edges.items + 1)) (sym same.1) numbered)

-- and they are the same
pub lines_same : (s t : Script) → HasLinesOf s t → all_lines t ≡ all_lines s
lines_same s t same =
    ap (λ (x : List Edge). map line.Edge x ++ lines_of t) same.0 ∙ ap (λ (x : List ScriptLine). map line.Edge s.edges.items ++ map (λ (l : ScriptLine). l.line) x) same.1

-- ---- outcomes

-- where nothing failed and no fault was kept before, the bytes are a script's to their end
pub reads_all : {D : Type 0} (t : Script) (r : Result D ScriptFault) (done : D) (bytes : List ℕ) → r ≡ Ok done → t.fault ≡ None → IsReadAs bytes r t → IsReadOf bytes t
reads_all {D = D} t r done bytes is none h =
    let ends = subst (λ (x : Result D ScriptFault). IsReadAs bytes x t) is h in
    (ends.0, subst (λ (f : Option ScriptFault). ReadsScript t.workers bytes (all_lines t) f ends.0) (sym none) ends.1)

-- bytes that lead to a fault
pub reads_fault : {D : Type 0} (t : Script) (r : Result D ScriptFault) (f : ScriptFault) (bytes : List ℕ) → r ≡ Err f → IsReadAs bytes r t →
    (left : List ℕ) × ReadsScript t.workers bytes (all_lines t) (Some f) left
reads_fault {D = D} t r f bytes is h = subst (λ (x : Result D ScriptFault). IsReadAs bytes x t) is h

-- a script without lines, and then with some, runs on what the options say
pub runs_kept : (options : PlainOptions) (s t : Script) → IsEmptyScript options s → KeepsOptions s t → RunsOn options t
runs_kept options s t empty kept = record {
  workers = kept.workers ∙ empty.0;
  max_vertices = kept.max_vertices ∙ empty.1;
  boxes = (subst (λ (v : Vec StockItem Global). NamesBoxes options.stock v.items) (sym kept.stock) empty.2.0, kept.endless ∙ empty.2.1);
}

-- a new buffer of 65,536 bytes has what the reader within it has
pub buffers_all : {T A : Type 0} (r : BufReader T A) (inner : T) (remaining : T → Option (List ℕ)) (bytes : List ℕ) → reader_inner r ≡ inner → reader_buffer r ≡ [] →
    reader_capacity r ≡ 65536 → remaining inner ≡ Some bytes → reader_remaining remaining r ≡ Some bytes
buffers_all {T = T} r inner remaining bytes is empty room known =
    ap (λ (n : ℕ). if n == 0 then None else prepend_known (reader_buffer r) (remaining (reader_inner r))) room
    ∙ ap (λ (xs : List ℕ). prepend_known xs (remaining (reader_inner r))) empty
    ∙ ap (λ (x : T). prepend_known [] (remaining x)) is ∙ ap (prepend_known []) known

pub err_is : {T F : Type 0} (r : Result T F) (f : F) → IsErrAnd r (λ e. e ≡ f) → r ≡ Err f
err_is r f h = let e = err_from_is_err_and r h in e.1 ∙ ap Err e.2

pub on_err : {T E P : Type 0} (r : Result T E) → is_err r ≡ true → OnErr r P → P
on_err (Ok x) failed h = absurd (true≢false (sym failed))
on_err (Err e) failed h = h

pub on_ok : {T E P : Type 0} (r : Result T E) → is_err r ≡ false → OnOk r P → P
on_ok (Ok x) done h = h
on_ok (Err e) done h = absurd (true≢false done)

-- the line that came couldn't be added: the script has what it had, and no more was read
pub reads_short : (s t : Script) (r : Reading) (bytes rest : List ℕ) → KeepsOptions s t → all_lines t ≡ all_lines s → ReadsPlainFront s.workers bytes (all_lines s) r rest →
    ReadsScript t.workers bytes (all_lines t) (Some fault.OutOfMemory) rest
reads_short s t r bytes rest kept same front =
    subst (λ (w : ℕ). ReadsScript w bytes (all_lines t) (Some fault.OutOfMemory) rest) (sym kept.workers)
    (subst (λ (x : List Line). ReadsScript s.workers bytes x (Some fault.OutOfMemory) rest) (sym same)
    (front_all s.workers r bytes rest (all_lines s) (Some fault.OutOfMemory) rest front refl))

-- what a script leaves that was read of these bytes and has no fault
pub leaves_outcome : (options : PlainOptions) (bytes : List ℕ) (s : Script) (r : Result Outcome PlainFault) → RunsOn options s → IsReadOf bytes s → IsNumbered s →
    IfOk r (IsOutcome s) → OnOk r (s.fault ≡ None) → IfOk r (IsOutcomeOf options bytes)
leaves_outcome options bytes s (Ok outcome) runs reads numbered left whole =
    record { script = s; options_are = runs; bytes_are = reads; numbers_are = numbered; whole = whole; outcome_is = left }
leaves_outcome options bytes s (Err f) runs reads numbered left whole = tt
