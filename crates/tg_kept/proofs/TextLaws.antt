-- The texts of lines: what they have, and that they are the lines of a history's text.
use Rattle.std.proofs.Common.{◌≡◌, ◌∙◌, ℕ, ◌+◌, ◌-◌, ◌<◌, get_or, true, List, [], ◌∷◌, ◌++◌, length, map, take, refl, sym, ap, arith, append_assoc, length-append}
use Rattle.std.specs.Prelude.{codes, decimal}
use Rattle.std.specs.List.{flat_map, join_with_byte}
use Rattle.std.proofs.lemmas.List.{map_more, take_at}
use Rattle.std.proofs.lemmas.List.Concat.{flat_map-append}
use Rattle.tg_rights.specs.RightSet.{RightSet, text_of}
use Rattle.tg_model.specs.declared.command.Deed.{Deed}
use Rattle.tg_model.specs.declared.command.Deed.TheVariants as deed
use Rattle.tg_model.specs.declared.edge.Edge.{Edge}
use Rattle.tg_model.specs.declared.law.Law.{Law}
use Rattle.tg_model.specs.declared.law.Law.TheVariants.{Cell, Sum, Max, Log}
use Rattle.tg_model.specs.declared.reply.Reply.{Reply}
use Rattle.tg_model.specs.declared.reply.Reply.TheVariants.{Done, Name, Values, Edges, Denied, VerticesFull, WorkersFull}
use Rattle.tg_model.specs.declared.reply.Denial.{Denial}
use Rattle.tg_model.specs.declared.reply.Cause.{Cause}
use Rattle.tg_model.specs.declared.reply.Cause.TheVariants.{NotDistinct, Missing, NotLog}
use Rattle.tg_model.specs.declared.value.Value.{Value}
use Rattle.tg_model.specs.declared.verb.Arguments.{Arguments}
use Rattle.tg_model.specs.declared.verb.Arguments.TheVariants.{Bare, Target, Value as SetValue, Rights, Move}
use Rattle.tg_model.specs.declared.verb.Verb.{Verb}
use Rattle.tg_model.specs.declared.verb.Verb.TheVariants as verb
use Rattle.tg_model.specs.Commands.{verb_of, verb_and_arguments, word_of}
use Rattle.tg_model.specs.Opened.{Plan}
use Rattle.tg_journal.specs.declared.entry.Entry.{Entry}
use Rattle.tg_text.specs.declared.line.Line.TheVariants as line
use Rattle.tg_text.specs.Grammar.{line_text, words_of_arguments}
use Rattle.tg_text.specs.Texts.{cause_text, denial_text, edge_text, reply_text, rule_text, value_text}
use Rattle.tg_saved.specs.Values.{logged_text, more_text, numbers_text, payload_text}
use Rattle.tg_saved.specs.Texts.{edge_line_text}
use Rattle.tg_entries.specs.Texts.{deed_text, end_text, entry_text, head_text, history_text, limits_text, version_text, worker_text}
use Rattle.tg_keep.specs.Lines.{is_entry}
use Rattle.tg_kept.specs.declared.lines.Said.{Said}
use Rattle.tg_kept.specs.declared.lines.Said.TheVariants as said
use Rattle.tg_kept.specs.Said.{said_line, said_text}
use Rattle.tg_kept.specs.Texts.{edge_line, ended_line, entry_line, limits_line, opening_lines, text_of_lines, unended, worker_line}
use Rattle.tg_kept.proofs.PrintLaws.{ArePrinted, BeginsByDigit, digit_before, digit_is_no_mark, digit_of_number, printed_both, printed_each, printed_is_entry, printed_more, printed_number, printed_rights}

-- ---- what is printed

printed_word : (v : Verb) → ArePrinted (word_of v)
printed_word verb.Take = refl
printed_word verb.Grant = refl
printed_word verb.Remove = refl
printed_word verb.Read = refl
printed_word verb.Write = refl
printed_word verb.Append = refl
printed_word verb.Inspect = refl
printed_word verb.List = refl
printed_word verb.Retire = refl

-- a space and another word
spaced : (a b : List ℕ) → ArePrinted a → ArePrinted b → ArePrinted (a ++ (32 ∷ b))
spaced a b p q = printed_both a (32 ∷ b) p (printed_more 32 b refl q)

abbrev words_joined : ℕ → Verb → Arguments → List ℕ
words_joined x v arguments = join_with_byte 32 (decimal x ∷ word_of v ∷ words_of_arguments arguments)

-- a command's line, by its words
printed_command : (x : ℕ) (v : Verb) (arguments : Arguments) → ArePrinted (words_joined x v arguments)
printed_command x v Bare = spaced (decimal x) (word_of v) (printed_number x) (printed_word v)
printed_command x v (Target y) = spaced (decimal x) (word_of v ++ (32 ∷ decimal y)) (printed_number x) (spaced (word_of v) (decimal y) (printed_word v) (printed_number y))
printed_command x v (SetValue y n) =
    spaced (decimal x) (word_of v ++ (32 ∷ (decimal y ++ (32 ∷ decimal n)))) (printed_number x)
    (spaced (word_of v) (decimal y ++ (32 ∷ decimal n)) (printed_word v) (spaced (decimal y) (decimal n) (printed_number y) (printed_number n)))
printed_command x v (Rights y s) =
    spaced (decimal x) (word_of v ++ (32 ∷ (decimal y ++ (32 ∷ text_of s)))) (printed_number x)
    (spaced (word_of v) (decimal y ++ (32 ∷ text_of s)) (printed_word v) (spaced (decimal y) (text_of s) (printed_number y) (printed_rights s)))
printed_command x v (Move y z s) =
    let end = decimal z ++ (32 ∷ text_of s) in
    let ends : ArePrinted end = spaced (decimal z) (text_of s) (printed_number z) (printed_rights s) in
    spaced (decimal x) (word_of v ++ (32 ∷ (decimal y ++ (32 ∷ end)))) (printed_number x)
    (spaced (word_of v) (decimal y ++ (32 ∷ end)) (printed_word v) (spaced (decimal y) end (printed_number y) ends))

printed_making : (x : ℕ) (word : List ℕ) (s : RightSet) → ArePrinted word → ArePrinted (decimal x ++ (32 ∷ (word ++ (32 ∷ text_of s))))
printed_making x word s p = spaced (decimal x) (word ++ (32 ∷ text_of s)) (printed_number x) (spaced word (text_of s) p (printed_rights s))

printed_further : (n : ℕ) → ArePrinted (more_text n)
printed_further n = printed_more 44 (decimal n) refl (printed_number n)

printed_numbers : (numbers : List ℕ) → ArePrinted (numbers_text numbers)
printed_numbers [] = refl
printed_numbers (n ∷ numbers) = printed_both (decimal n) (flat_map more_text numbers) (printed_number n) (printed_each more_text printed_further numbers)

printed_logged : (numbers : List ℕ) → ArePrinted (logged_text numbers)
printed_logged [] = refl
printed_logged (n ∷ numbers) = printed_more 58 (numbers_text (n ∷ numbers)) refl (printed_numbers (n ∷ numbers))

printed_payload : (law : Law) (state : List ℕ) → ArePrinted (payload_text law state)
printed_payload Cell state = printed_both (codes "c") (numbers_text state) refl (printed_numbers state)
printed_payload Sum state = printed_both (codes "s") (numbers_text state) refl (printed_numbers state)
printed_payload Max state = printed_both (codes "m") (numbers_text state) refl (printed_numbers state)
printed_payload (Log most) state =
    printed_both (codes "l" ++ decimal most) (logged_text state) (printed_both (codes "l") (decimal most) refl (printed_number most)) (printed_logged state)

printed_deed : (x : ℕ) (d : Deed) → ArePrinted (deed_text x d)
printed_deed x (deed.Create label law state) =
    spaced (line_text (line.Create x label)) (payload_text law state) (printed_making x (codes "create") label refl) (printed_payload law state)
printed_deed x (deed.Spawn label law state) =
    spaced (line_text (line.Spawn x label)) (payload_text law state) (printed_making x (codes "spawn") label refl) (printed_payload law state)
printed_deed x (deed.Plain command) = printed_command x (verb_and_arguments command).0 (verb_and_arguments command).1

printed_cause : (cause : Cause) → ArePrinted (cause_text cause)
printed_cause NotDistinct = refl
printed_cause (Missing s from to) =
    printed_both (((decimal from ++ codes "->") ++ decimal to) ++ codes " ") (text_of s)
    (printed_both ((decimal from ++ codes "->") ++ decimal to) (codes " ")
    (printed_both (decimal from ++ codes "->") (decimal to) (printed_both (decimal from) (codes "->") (printed_number from) refl) (printed_number to)) refl)
    (printed_rights s)
printed_cause NotLog = refl

printed_denial : (denial : Denial) → ArePrinted (denial_text denial)
printed_denial denial =
    printed_both ((codes "denied " ++ rule_text denial.rule) ++ codes " ") (cause_text denial.cause)
    (printed_both (codes "denied " ++ rule_text denial.rule) (codes " ") (printed_both (codes "denied ") (rule_text denial.rule) refl (printed_word (verb_of denial.rule))) refl)
    (printed_cause denial.cause)

printed_value : (n : ℕ) → ArePrinted (value_text n)
printed_value n = printed_both (codes " ") (decimal n) refl (printed_number n)

printed_edge : (edge : ℕ × RightSet) → ArePrinted (edge_text edge)
printed_edge edge =
    printed_both ((codes " " ++ decimal edge.0) ++ codes ":") (text_of edge.1)
    (printed_both (codes " " ++ decimal edge.0) (codes ":") (printed_value edge.0) refl) (printed_rights edge.1)

printed_reply : (reply : Reply) → ArePrinted (reply_text reply)
printed_reply Done = refl
printed_reply (Name name) = printed_both (codes "ok ") (decimal name) refl (printed_number name)
printed_reply (Values values) = printed_both (codes "ok") (flat_map value_text values) refl (printed_each value_text printed_value values)
printed_reply (Edges edges) = printed_both (codes "ok") (flat_map edge_text edges) refl (printed_each edge_text printed_edge edges)
printed_reply (Denied denial) = printed_denial denial
printed_reply VerticesFull = refl
printed_reply WorkersFull = refl

-- ---- no line is a mark

digit_of_command : (x : ℕ) (v : Verb) (arguments : Arguments) → BeginsByDigit (words_joined x v arguments)
digit_of_command x v arguments = digit_before (decimal x) (32 ∷ join_with_byte 32 (word_of v ∷ words_of_arguments arguments)) (digit_of_number x)

digit_of_deed : (x : ℕ) (d : Deed) → BeginsByDigit (deed_text x d)
digit_of_deed x (deed.Create label law state) =
    digit_before (line_text (line.Create x label)) (32 ∷ payload_text law state) (digit_before (decimal x) (32 ∷ (codes "create" ++ (32 ∷ text_of label))) (digit_of_number x))
digit_of_deed x (deed.Spawn label law state) =
    digit_before (line_text (line.Spawn x label)) (32 ∷ payload_text law state) (digit_before (decimal x) (32 ∷ (codes "spawn" ++ (32 ∷ text_of label))) (digit_of_number x))
digit_of_deed x (deed.Plain command) = digit_of_command x (verb_and_arguments command).0 (verb_and_arguments command).1

pub entry_may_be : (e : Entry) → is_entry (entry_line e) ≡ true
entry_may_be e =
    let front = deed_text e.worker e.deed in
    let back = codes " = " ++ reply_text e.reply in
    printed_is_entry (front ++ back) (printed_both front back (printed_deed e.worker e.deed) (printed_both (codes " = ") (reply_text e.reply) refl (printed_reply e.reply)))
    (digit_is_no_mark (front ++ back) (digit_before front back (digit_of_deed e.worker e.deed)))

pub limits_may_be : (workers limit : ℕ) → is_entry (limits_line workers limit) ≡ true
limits_may_be workers limit =
    let back = codes " " ++ decimal limit in
    printed_is_entry (limits_line workers limit)
    (printed_both (codes "opening ") (decimal workers ++ back) refl (printed_both (decimal workers) back (printed_number workers) (printed_both (codes " ") (decimal limit) refl (printed_number limit))))
    refl

pub worker_may_be : (value : Value) → is_entry (worker_line value) ≡ true
worker_may_be value =
    printed_is_entry (worker_line value) (printed_both (codes "worker ") (payload_text value.law value.state) refl (printed_payload value.law value.state)) refl

pub edge_may_be : (edge : Edge) → is_entry (edge_line edge) ≡ true
edge_may_be edge =
    let end = decimal edge.to ++ (32 ∷ text_of edge.label) in
    printed_is_entry (edge_line edge)
    (spaced (codes "edge") (decimal edge.from ++ (32 ∷ end)) refl
    (spaced (decimal edge.from) end (printed_number edge.from) (spaced (decimal edge.to) (text_of edge.label) (printed_number edge.to) (printed_rights edge.label))))
    refl

-- each line may be one of a file
pub said_may_be : (s : Said) → is_entry (said_line s) ≡ true
said_may_be (said.Limits workers limit) = limits_may_be workers limit
said_may_be (said.Worker value) = worker_may_be value.now
said_may_be (said.Edge edge) = edge_may_be edge
said_may_be (said.Entry entry) = entry_may_be entry.now

-- ---- lines and their line feeds

pub entry_ends : (e : Entry) → entry_text e ≡ ended_line (entry_line e)
entry_ends e =
    ap (λ l. deed_text e.worker e.deed ++ l) (sym (append_assoc (codes " = ") (reply_text e.reply) (10 ∷ [])))
    ∙ sym (append_assoc (deed_text e.worker e.deed) (codes " = " ++ reply_text e.reply) (10 ∷ []))

limits_end : (workers limit : ℕ) → limits_text workers limit ≡ ended_line (limits_line workers limit)
limits_end workers limit =
    ap (λ l. codes "opening " ++ (decimal workers ++ l)) (sym (append_assoc (codes " ") (decimal limit) (codes "\n")))
    ∙ ap (λ l. codes "opening " ++ l) (sym (append_assoc (decimal workers) (codes " " ++ decimal limit) (codes "\n")))
    ∙ sym (append_assoc (codes "opening ") (decimal workers ++ (codes " " ++ decimal limit)) (codes "\n"))

worker_ends : (value : Value) → worker_text value ≡ ended_line (worker_line value)
worker_ends value = sym (append_assoc (codes "worker ") (payload_text value.law value.state) (codes "\n"))

edge_ends : (edge : Edge) → edge_line_text edge ≡ ended_line (edge_line edge)
edge_ends edge = refl

pub said_ends : (s : Said) → said_text s ≡ ended_line (said_line s)
said_ends (said.Limits workers limit) = limits_end workers limit
said_ends (said.Worker value) = worker_ends value.now
said_ends (said.Edge edge) = edge_ends edge
said_ends (said.Entry entry) = entry_ends entry.now

pub unended_line : (text : List ℕ) → unended (ended_line text) ≡ text
unended_line text = take_at text (10 ∷ []) (length (ended_line text) - 1) (omega (arith, length-append text (10 ∷ [])))

-- what was written of a line, without its line feed, is the line
pub unended_said : (s : Said) (written : List ℕ) → written ≡ said_text s → unended written ≡ said_line s
unended_said s written is = ap unended (is ∙ said_ends s) ∙ unended_line (said_line s)

-- ---- the whole

each_ends : {X : Type 0} (text line : X → List ℕ) → ((x : X) → text x ≡ ended_line (line x)) → (xs : List X) → flat_map ended_line (map line xs) ≡ flat_map text xs
each_ends text line each [] = refl
each_ends text line each (x ∷ xs) = ap (λ l. l ++ flat_map ended_line (map line xs)) (sym (each x)) ∙ ap (λ l. text x ++ l) (each_ends text line each xs)

-- the lines of an opening, with their line feeds
opening_ends : (p : Plan) → flat_map ended_line (opening_lines p) ≡ (limits_text p.workers p.limit ++ flat_map worker_text p.values) ++ flat_map edge_line_text p.edges
opening_ends p =
    let limits = limits_text p.workers p.limit in
    let workers = flat_map worker_text p.values in
    let front : flat_map ended_line (limits_line p.workers p.limit ∷ map worker_line p.values) ≡ limits ++ workers =
    ap (λ l. l ++ flat_map ended_line (map worker_line p.values)) (sym (limits_end p.workers p.limit)) ∙ ap (λ l. limits ++ l) (each_ends worker_text worker_line worker_ends p.values) in
    flat_map-append ended_line (limits_line p.workers p.limit ∷ map worker_line p.values) (map edge_line p.edges)
    ∙ ap (λ l. l ++ flat_map ended_line (map edge_line p.edges)) front
    ∙ ap (λ l. (limits ++ workers) ++ l) (each_ends edge_line_text edge_line edge_ends p.edges)

-- the head of a history's text has these lines after its first
pub head_lines : (p : Plan) → head_text p ≡ version_text ++ flat_map ended_line (opening_lines p)
head_lines p =
    let limits = limits_text p.workers p.limit in
    let workers = flat_map worker_text p.values in
    let edges = flat_map edge_line_text p.edges in
    append_assoc (version_text ++ limits) workers edges
    ∙ append_assoc version_text limits (workers ++ edges)
    ∙ ap (λ l. version_text ++ l) (sym (append_assoc limits workers edges) ∙ sym (opening_ends p))

-- the lines of an opening and of entries are those of the history's text
pub lines_of_history : (p : Plan) (es : List Entry) → text_of_lines (opening_lines p ++ map entry_line es) (length es) ≡ history_text p es
lines_of_history p es =
    let lines = flat_map ended_line (opening_lines p) in
    let entries = flat_map entry_text es in
    let all : flat_map ended_line (opening_lines p ++ map entry_line es) ≡ lines ++ entries =
    flat_map-append ended_line (opening_lines p) (map entry_line es) ∙ ap (λ l. lines ++ l) (each_ends entry_text entry_line entry_ends es) in
    ap (λ l. (version_text ++ l) ++ end_text (length es)) all
    ∙ ap (λ l. l ++ end_text (length es)) (sym (append_assoc version_text lines entries) ∙ ap (λ l. l ++ entries) (sym (head_lines p)))

-- one line more
pub line_more : {X : Type 0} (line : X → List ℕ) (xs : List X) (i : ℕ) (x : X) → i < length xs → x ≡ get_or xs i x → map line (take (i + 1) xs) ≡ map line (take i xs) ++ line x ∷ []
line_more line xs i x within is = map_more line xs i x within ∙ ap (λ y. map line (take i xs) ++ line y ∷ []) (sym is)

-- the lines of an opening were added, one part after the other
pub opening_added : (p : Plan) (none first second third : List (List ℕ)) (workers limit : ℕ) (values : List Value) (edges : List Edge) → none ≡ [] → first ≡ none ++ limits_line workers limit ∷ []
    → second ≡ first ++ map worker_line values → third ≡ second ++ map edge_line edges → workers ≡ p.workers → limit ≡ p.limit → values ≡ p.values → edges ≡ p.edges → third ≡ opening_lines p
opening_added p none first second third workers limit values edges e a b c w l v d =
    c
    ∙ ap (λ (t : List (List ℕ)). t ++ map edge_line edges) b
    ∙ ap (λ (t : List (List ℕ)). (t ++ map worker_line values) ++ map edge_line edges) a
    ∙ ap (λ (t : List (List ℕ)). ((t ++ limits_line workers limit ∷ []) ++ map worker_line values) ++ map edge_line edges) e
    ∙ ap (λ (n : ℕ). (limits_line n limit ∷ map worker_line values) ++ map edge_line edges) w
    ∙ ap (λ (n : ℕ). (limits_line p.workers n ∷ map worker_line values) ++ map edge_line edges) l
    ∙ ap (λ (vs : List Value). (limits_line p.workers p.limit ∷ map worker_line vs) ++ map edge_line edges) v
    ∙ ap (λ (es : List Edge). (limits_line p.workers p.limit ∷ map worker_line p.values) ++ map edge_line es) d
