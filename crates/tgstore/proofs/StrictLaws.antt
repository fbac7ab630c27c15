-- What a watch has seen of a run, and the status that this makes.
use Rattle.std.proofs.Common.{◌≡◌, ◌∙◌, ℕ, Bool, List, [], map, replicate, Option, Some, None, Result, Ok, Err, OnOk, true, false, ap, append-nil, refl, subst, sym}
use Rattle.std.specs.Prelude.{◌||◌, ◌==◌, if◌then◌else◌}
use Rattle.std.specs.declared.io.buffered.BufReader.{BufReader}
use Rattle.std.specs.declared.io.buffered.BufWriter.{BufWriter}
use Rattle.std.specs.List.{list_any}
use Rattle.std.specs.Io.KnownBytes.{append_known, prepend_known}
use Rattle.std.specs.Io.Buffered.{reader_buffer, reader_capacity, reader_inner, reader_remaining, writer_buffer, writer_contents, writer_inner}
use Rattle.std.proofs.lemmas.Bool.{false≢true}
use Rattle.std.proofs.lemmas.Option.{same_Some}
use Rattle.tg_model.specs.declared.value.Value.{Value}
use Rattle.tg_text.specs.declared.answer.Answer.{Answer}
use Rattle.tg_text.specs.declared.fault.ScriptFault.{ScriptFault}
use Rattle.tg_text.specs.declared.stock.StockItem.TheVariants.{Cell}
use Rattle.tg_script.specs.Script.{start_with}
use Rattle.tg_script.specs.Watching.{IsWatched, SeesOne, SeesAll}
use Rattle.tg_text.specs.Refusing.{says_refusal}
use Rattle.tgstore.specs.Boxes.{value_of_item}
use Rattle.tgstore.specs.declared.start.Start.{Start}
use Rattle.tgstore.specs.declared.stop.Stop.{Stop}
use Rattle.tgstore.specs.Strict.{HasStatus, WatchesFrom, seen_if, status_if}

-- ---- one answer

pub seen_noted : (strict had strict' had' : Bool) (a : Answer) → strict ≡ true → strict' ≡ strict → had' ≡ (had || says_refusal a) → SeesOne (seen_if strict had) a (seen_if strict' had')
seen_noted false had strict' had' a on same noted = absurd (false≢true on)
seen_noted true had strict' had' a on same noted = ap (λ (x : Bool). seen_if x had') same ∙ ap Some noted

pub unseen : (strict had : Bool) (a : Answer) → strict ≡ false → SeesOne (seen_if strict had) a (seen_if strict had)
unseen false had a off = tt
unseen true had a off = absurd (false≢true (sym off))

-- ---- a run

-- of a race nothing is said
pub no_race_seen : (left left' taken taken' : Option (List ℕ)) (saw saw' : Option Bool) (start : Start) (result : Result (Unit {0}) Stop) → start.race ≡ true → OnOk result (WatchesFrom start left left' taken taken' saw saw')
no_race_seen left left' taken taken' saw saw' start (Err why) race = tt
no_race_seen left left' taken taken' saw saw' start (Ok done) race = λ bytes before leaves takes alone. absurd (false≢true (sym alone ∙ race))

seen_from : (left left' taken taken' : Option (List ℕ)) (saw saw' : Option Bool) (start : Start) (values stock : List Value) → values ≡ replicate start.settings.workers (value_of_item Cell) → stock ≡ map value_of_item start.stock.items → ((bytes before : List ℕ) → left ≡ Some bytes → taken ≡ Some before → (rest : List ℕ) × (left' ≡ Some rest) × IsWatched start.entries (start_with start.settings values stock) bytes before rest taken' saw saw') → WatchesFrom start left left' taken taken' saw saw'
seen_from left left' taken taken' saw saw' start values stock workers boxes seen bytes before leaves takes alone =
    let had = seen bytes before leaves takes in
    let P : List Value → Type 0 = λ x. IsWatched start.entries (start_with start.settings x stock) bytes before had.0 taken' saw saw' in
    let Q : List Value → Type 0 = λ x. IsWatched start.entries (start_with start.settings (replicate start.settings.workers (value_of_item Cell)) x) bytes before had.0 taken' saw saw' in
    (had.0, had.1, subst Q boxes (subst P workers had.2))

pub seen_run : (left left' taken taken' : Option (List ℕ)) (saw saw' : Option Bool) (start : Start) (values stock : List Value) (outcome : Result (Unit {0}) ScriptFault) → values ≡ replicate start.settings.workers (value_of_item Cell) → stock ≡ map value_of_item start.stock.items → OnOk outcome ((bytes before : List ℕ) → left ≡ Some bytes → taken ≡ Some before → (rest : List ℕ) × (left' ≡ Some rest) × IsWatched start.entries (start_with start.settings values stock) bytes before rest taken' saw saw') → OnOk outcome (WatchesFrom start left left' taken taken' saw saw')
seen_run left left' taken taken' saw saw' start values stock (Err fault) workers boxes seen = tt
seen_run left left' taken taken' saw saw' start values stock (Ok done) workers boxes seen = seen_from left left' taken taken' saw saw' start values stock workers boxes seen

-- what a strict watch has seen at the end is what the answers say
saw_answers : (had on saw : Bool) (answers : List Answer) → had ≡ false → SeesAll (Some had) answers (seen_if on saw) → saw ≡ list_any says_refusal answers
saw_answers had false saw answers none seen = absurd cc
saw_answers had true saw answers none seen = same_Some saw (had || list_any says_refusal answers) seen ∙ ap (λ (x : Bool). x || list_any says_refusal answers) none

pub status_seen : (strict had on saw : Bool) (answers : List Answer) → had ≡ false → SeesAll (seen_if strict had) answers (seen_if on saw) → status_if strict saw ≡ status_if strict (list_any says_refusal answers)
status_seen false had on saw answers none seen = refl
status_seen true had on saw answers none seen = ap (status_if true) (saw_answers had on saw answers none seen)

seen_by : (left left' taken taken' : Option (List ℕ)) (saw' : Option Bool) (start : Start) (strict had : Bool) → strict ≡ start.strict → WatchesFrom start left left' taken taken' (seen_if strict had) saw' → WatchesFrom start left left' taken taken' (seen_if start.strict had) saw'
seen_by left left' taken taken' saw' start strict had same seen = subst (λ (x : Bool). WatchesFrom start left left' taken taken' (seen_if x had) saw') same seen

pub has_status : (left left' taken taken' : Option (List ℕ)) (start : Start) (strict had on saw : Bool) (outcome : Result (Unit {0}) Stop) (status : ℕ) → strict ≡ start.strict → had ≡ false → status ≡ status_if start.strict saw → OnOk outcome (WatchesFrom start left left' taken taken' (seen_if strict had) (seen_if on saw)) → OnOk outcome (HasStatus start left left' taken taken' status)
has_status left left' taken taken' start strict had on saw (Err why) status same none is seen = tt
has_status left left' taken taken' start strict had on saw (Ok done) status same none is seen = λ bytes before leaves takes alone.
    let k = seen_by left left' taken taken' (seen_if on saw) start strict had same seen bytes before leaves takes alone in
    (k.0, k.2.0, k.1, k.2.1, is ∙ status_seen start.strict had on saw k.2.0 none k.2.2)

pub lax_status : (strict saw : Bool) (status : ℕ) → status ≡ status_if strict saw → strict ≡ false → status ≡ 0
lax_status strict saw status is lax = is ∙ ap (λ (x : Bool). status_if x saw) lax

-- what is known of a reader and a writer is known of those that they were made from
pub status_from : (l left left' k taken taken' : Option (List ℕ)) (start : Start) (outcome : Result (Unit {0}) Stop) (status : ℕ) → l ≡ left → k ≡ taken → OnOk outcome (HasStatus start left left' taken taken' status) → OnOk outcome (HasStatus start l left' k taken' status)
status_from l left left' k taken taken' start (Err why) status reads writes has = tt
status_from l left left' k taken taken' start (Ok done) status reads writes has = λ bytes before leaves takes alone. has bytes before (sym reads ∙ leaves) (sym writes ∙ takes) alone

-- ---- new buffers

none_before : (known : Option (List ℕ)) → prepend_known [] known ≡ known
none_before None = refl
none_before (Some bytes) = refl

none_after : (known : Option (List ℕ)) → append_known known [] ≡ known
none_after None = refl
none_after (Some bytes) = ap Some (append-nil bytes)

-- a new buffer of 65,536 bytes has what the reader within it has
pub new_reader : {T A : Type 0} (r : BufReader T A) (inner : T) (remaining : T → Option (List ℕ)) → reader_inner r ≡ inner → reader_buffer r ≡ [] → reader_capacity r ≡ 65536 → remaining inner ≡ reader_remaining remaining r
new_reader {T = T} r inner remaining is empty room = sym (
    ap (λ (n : ℕ). if n == 0 then None else prepend_known (reader_buffer r) (remaining (reader_inner r))) room
    ∙ ap (λ (xs : List ℕ). prepend_known xs (remaining (reader_inner r))) empty
    ∙ ap (λ (x : T). prepend_known [] (remaining x)) is ∙ none_before (remaining inner))

-- and a writer in a new buffer has what it had
pub new_writer : {T A : Type 0} (w : BufWriter T A) (inner : T) (contents : T → Option (List ℕ)) → writer_inner w ≡ inner → writer_buffer w ≡ [] → contents inner ≡ writer_contents contents w
new_writer {T = T} w inner contents is empty = sym (
    ap (λ (xs : List ℕ). append_known (contents (writer_inner w)) xs) empty
    ∙ ap (λ (x : T). append_known (contents x) []) is ∙ none_after (contents inner))
