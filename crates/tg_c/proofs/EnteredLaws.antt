-- Entries that are reported as a record, numbers and edges, and are read again.
use Rattle.std.proofs.Common.{◌≡◌, ◌≢◌, ◌⊎◌, inl, inr, ◌≤◌, ◌<◌, ◌==◌, ◌∙◌, ℕ, Bool, true, false, List, [], ◌∷◌, Option, Some, None, if◌then◌else◌, map, length, nat_lt, is_some, refl, ap, sym, subst, arith}
use Rattle.std.specs.List.{All}
use Rattle.std.specs.Option.{IsSome}
use Rattle.std.proofs.lemmas.Bool.{cond_both, eqb-false, eqb-true, ltb-true}
use Rattle.std.proofs.lemmas.Bool.Decides.{nat_tests}
use Rattle.std.proofs.lemmas.List.Elements.{All-cons, All-head, All-map, All-nil, All-tail, All-weaker}
use Rattle.std.proofs.lemmas.List.{length-map}
use Rattle.tg_rights.specs.Inner.TypeLaws.{bits_of-of_bits}
use Rattle.tg_rights.specs.RightSet.{RightSet, bits_bound, bits_of, is_none_held, of_bits, set_of_bits}
use Rattle.tg_rights.proofs.RightBits.{bits_of-lt, of_bits-bits_of}
use Rattle.tg_model.specs.declared.command.Command.{Command}
use Rattle.tg_model.specs.declared.command.Command.TheVariants as command
use Rattle.tg_model.specs.declared.command.Deed.{Deed}
use Rattle.tg_model.specs.declared.command.Deed.TheVariants.{Plain, Create, Spawn}
use Rattle.tg_model.specs.declared.law.Law.{Law}
use Rattle.tg_model.specs.declared.law.Law.TheVariants as law
use Rattle.tg_model.specs.declared.reply.Cause.{Cause}
use Rattle.tg_model.specs.declared.reply.Cause.TheVariants.{NotDistinct, Missing, NotLog}
use Rattle.tg_model.specs.declared.reply.Denial.{Denial}
use Rattle.tg_model.specs.declared.reply.Reply.{Reply}
use Rattle.tg_model.specs.declared.reply.Reply.TheVariants.{Done, Denied, Name, Values, Edges, VerticesFull, WorkersFull}
use Rattle.tg_model.specs.declared.reply.Rule.{Rule}
use Rattle.tg_model.specs.declared.reply.Rule.TheVariants as rule
use Rattle.tg_journal.specs.declared.entry.Entry.{Entry}
use Rattle.tg_c.specs.declared.forms.EdgeOut.{EdgeOut}
use Rattle.tg_c.specs.declared.records.DeedOut.{DeedOut}
use Rattle.tg_c.specs.declared.records.RecordOut.{RecordOut}
use Rattle.tg_c.specs.Entered.{IsDeedOf, IsEntryOf, IsLabel, IsProper}
use Rattle.tg_c.specs.Forms.{denial_at, edge_out, if_some, label_at, rule_number}
use Rattle.tg_c.specs.Inner.Reading.{AreLabelled, HasForm, cause_read, command_read, deed_read, edge_read, entry_read, label_or_read, label_read, law_read, reply_read, rights_or_none, rights_read, rule_read}
use Rattle.tg_c.specs.Records.{deed_out, edges_entered, edges_replied, law_out, numbers_entered, numbers_replied, record_of, record_with, reply_out, values_in}

-- ---- what was told is read again

set_below : (n : ℕ) → n < bits_bound → set_of_bits n ≡ Some (of_bits n)
set_below n low = grind (arith, nat_tests)

set_back : (s : RightSet) → set_of_bits (bits_of s) ≡ Some s
set_back s = set_below (bits_of s) (bits_of-lt s) ∙ ap (λ (x : RightSet). Some x) (of_bits-bits_of s)

rights_back : (s : RightSet) → rights_read (bits_of s) ≡ s
rights_back s = ap rights_or_none (set_back s)

label_back : (l : RightSet) → IsLabel l → label_read (bits_of l) ≡ l
label_back l is =
    ap (λ (o : Option RightSet). label_or_read (if_some o)) (set_back l)
    ∙ ap (λ (b : Bool). label_or_read (if b then None else Some l)) is

law_back : (l : Law) → law_read (law_out l).0 (law_out l).1 ≡ l
law_back law.Cell = refl
law_back law.Sum = refl
law_back law.Max = refl
law_back (law.Log most) = refl

rule_back : (r : Rule) → rule_read (rule_number r) ≡ r
rule_back rule.Take = refl
rule_back rule.Grant = refl
rule_back rule.Remove = refl
rule_back rule.Read = refl
rule_back rule.Write = refl
rule_back rule.Append = refl
rule_back rule.Inspect = refl

denial_back : (r : Rule) (c : Cause) → ◌≡◌ {A = Denial} (record { rule = rule_read (denial_at (rule_number r) c).rule; cause = cause_read (denial_at (rule_number r) c) }) (record { rule = r; cause = c })
denial_back r NotDistinct = λ i. record { rule = rule_back r i; cause = NotDistinct }
denial_back r NotLog = λ i. record { rule = rule_back r i; cause = NotLog }
denial_back r (Missing rights from to) = λ i. record { rule = rule_back r i; cause = Missing (rights_back rights i) from to }

edges_back : (edges : List (ℕ × RightSet)) → All (λ edge. IsLabel edge.1) edges → map edge_read (map edge_out edges) ≡ edges
edges_back [] are = refl
edges_back (edge ∷ edges) are =
    let is_label : (x : ℕ × RightSet) → Type 0 = λ x. IsLabel x.1 in
    λ i. (edge.0, label_back edge.1 (All-head is_label edge edges are) i) ∷ edges_back edges (All-tail is_label edge edges are) i

module _ (worker : ℕ) where
  deed_back : (d : Deed) (r : Reply) → IsDeedOf d r → deed_read (record_of (record { worker = worker; deed = d; reply = r })) (numbers_replied d r) ≡ d
  deed_back (Plain (command.Take label via target)) r is = ap (λ (l : RightSet). Plain (command.Take l via target)) (label_back label is)
  deed_back (Plain (command.Grant label via target)) r is = ap (λ (l : RightSet). Plain (command.Grant l via target)) (label_back label is)
  deed_back (Plain (command.Remove label target)) r is = ap (λ (l : RightSet). Plain (command.Remove l target)) (label_back label is)
  deed_back (Plain (command.Read target)) r is = refl
  deed_back (Plain (command.Write target value)) r is = refl
  deed_back (Plain (command.Append target value)) r is = refl
  deed_back (Plain (command.Inspect target)) r is = refl
  deed_back (Plain command.List) r is = refl
  deed_back (Plain command.Retire) r is = refl
  deed_back (Create label law state) r is = λ i. Create (label_back label is.0 i) (law_back law i) state
  deed_back (Spawn label law state) r is = λ i. Spawn (label_back label is.0 i) (law_back law i) state

  values_back : (d : Deed) (values : List ℕ) → IsDeedOf d (Values values) → numbers_replied d (Values values) ≡ values
  values_back (Plain asked_for) values is = refl
  values_back (Create label law state) values is = absurd (is.1 values refl)
  values_back (Spawn label law state) values is = absurd (is.1 values refl)

  reply_back : (d : Deed) (r : Reply) → IsDeedOf d r → All (λ edge. IsLabel edge.1) (edges_replied r)
      → reply_read (record_of (record { worker = worker; deed = d; reply = r })) (numbers_replied d r) (map edge_read (map edge_out (edges_replied r))) ≡ r
  reply_back d Done is are = refl
  reply_back d (Denied why) is are = ap (λ (w : Denial). Denied w) (denial_back why.rule why.cause)
  reply_back d (Name name) is are = refl
  reply_back d (Values values) is are = ap (λ (ns : List ℕ). Values ns) (values_back d values is)
  reply_back d (Edges edges) is are = ap (λ (es : List (ℕ × RightSet)). Edges es) (edges_back edges are)
  reply_back d VerticesFull is are = refl
  reply_back d WorkersFull is are = refl

entry_back : (e : Entry) → IsProper e → entry_read (record_of e) (numbers_entered e) (map edge_out (edges_entered e)) ≡ e
entry_back e is = λ i. record { worker = e.worker; deed = deed_back e.worker e.deed e.reply is.deed i; reply = reply_back e.worker e.deed e.reply is.deed is.edges i }

-- the entry that is reported so is the one that is read
pub read_back : (it : RecordOut) (numbers : List ℕ) (edges : List EdgeOut) (e : Entry) → IsEntryOf it numbers edges e → entry_read it numbers edges ≡ e
read_back it numbers edges e is =
    (λ i. entry_read (sym is.written.told i) (sym is.written.all_numbers i) (sym is.written.all_edges i)) ∙ entry_back e is.proper

-- ---- what is read is proper

label_is : (o : Option RightSet) → IsLabel (label_or_read (if_some o))
label_is None = refl
label_is (Some s) = cond_both (is_none_held s) None (Some s) (λ (l : Option RightSet). IsLabel (label_or_read l)) (λ is. refl) (λ is. is)

read_is : (bits : ℕ) → IsLabel (label_read bits)
read_is bits = label_is (set_of_bits bits)

-- the label of a command that is read, whatever the reply
command_is : (it : RecordOut) (r : Reply) → IsDeedOf (Plain (command_read it)) r
command_is it r =
    let P : Command → Type 0 = λ c. IsDeedOf (Plain c) r in
    cond_both (it.deed == 0) _ _ P (λ is. read_is it.rights) (λ no.
    cond_both (it.deed == 1) _ _ P (λ is. read_is it.rights) (λ no.
    cond_both (it.deed == 2) _ _ P (λ is. read_is it.rights) (λ no.
    cond_both (it.deed == 3) _ _ P (λ is. tt) (λ no.
    cond_both (it.deed == 4) _ _ P (λ is. tt) (λ no.
    cond_both (it.deed == 5) _ _ P (λ is. tt) (λ no.
    cond_both (it.deed == 6) _ _ P (λ is. tt) (λ no.
    cond_both (it.deed == 9) _ _ P (λ is. tt) (λ no. tt))))))))

deed_is : (it : RecordOut) (numbers : List ℕ) (r : Reply) → (16 ≤ it.deed → (values : List ℕ) → r ≢ Values values) → IsDeedOf (deed_read it numbers) r
deed_is it numbers r no_values =
    let P : Deed → Type 0 = λ d. IsDeedOf d r in
    cond_both (it.deed == 16) _ _ P (λ is. (read_is it.rights, no_values (omega (arith, eqb-true it.deed 16 is)))) (λ no.
    cond_both (it.deed == 17) _ _ P (λ is. (read_is it.rights, no_values (omega (arith, eqb-true it.deed 17 is)))) (λ no. command_is it r))

-- what holds of each reply that may be read, where the number of the reply says so
reply_is : (it : RecordOut) (values : List ℕ) (listed : List (ℕ × RightSet)) (P : Reply → Type 0) → ((d : Denial) → it.reply ≡ 1 → P (Denied d)) → ((n : ℕ) → it.reply ≡ 2 → P (Name n))
    → (it.reply ≡ 3 → P (Values values)) → (it.reply ≡ 4 → P (Edges listed)) → (it.reply ≡ 16 → P VerticesFull) → (it.reply ≡ 17 → P WorkersFull) → (it.reply ≢ 3 → it.reply ≢ 4 → P Done)
    → P (reply_read it values listed)
reply_is it values listed P denied name read shown vertices workers done =
    cond_both (it.reply == 1) _ _ P (λ is. denied _ (eqb-true it.reply 1 is)) (λ no.
    cond_both (it.reply == 2) _ _ P (λ is. name it.name (eqb-true it.reply 2 is)) (λ no.
    cond_both (it.reply == 3) _ _ P (λ is. read (eqb-true it.reply 3 is)) (λ three.
    cond_both (it.reply == 4) _ _ P (λ is. shown (eqb-true it.reply 4 is)) (λ four.
    cond_both (it.reply == 16) _ _ P (λ is. vertices (eqb-true it.reply 16 is)) (λ no.
    cond_both (it.reply == 17) _ _ P (λ is. workers (eqb-true it.reply 17 is)) (λ no. done (eqb-false it.reply 3 three) (eqb-false it.reply 4 four)))))))

labels_read : (edges : List EdgeOut) → All (λ edge. IsLabel edge.1) (map edge_read edges)
labels_read [] = All-nil (λ (edge : ℕ × RightSet). IsLabel edge.1)
labels_read (edge ∷ edges) =
    All-cons (λ (edge : ℕ × RightSet). IsLabel edge.1) (edge_read edge) (map edge_read edges) (read_is edge.rights) (labels_read edges)

none_listed : All (λ (edge : ℕ × RightSet). IsLabel edge.1) []
none_listed = All-nil (λ (edge : ℕ × RightSet). IsLabel edge.1)

no_values : (it : RecordOut) (numbers : List ℕ) (listed : List (ℕ × RightSet)) → it.reply ≢ 3 → (values : List ℕ) → reply_read it numbers listed ≢ Values values
no_values it numbers listed none values =
    reply_is it numbers listed (λ (r : Reply). r ≢ Values values) (λ d is same. absurd (cc same)) (λ n is same. absurd (cc same)) (λ three. absurd (none three)) (λ is same. absurd (cc same)) (λ is same. absurd (cc same))
    (λ is same. absurd (cc same)) (λ three four same. absurd (cc same))

read_proper : (it : RecordOut) (numbers : List ℕ) (edges : List EdgeOut) → (16 ≤ it.deed → it.reply ≢ 3) → IsProper (entry_read it numbers edges)
read_proper it numbers edges none = record {
  deed = deed_is it numbers (reply_read it numbers (map edge_read edges)) (λ high values. no_values it numbers (map edge_read edges) (none high) values);
  edges =
      reply_is it numbers (map edge_read edges) (λ (r : Reply). All (λ edge. IsLabel edge.1) (edges_replied r)) (λ d is. none_listed) (λ n is. none_listed) (λ three. none_listed) (λ four. labels_read edges) (λ is. none_listed)
      (λ is. none_listed) (λ three four. none_listed);
}

-- ---- what is reported of no entry

values_told : (r : Reply) → (reply_out r).kind ≡ 3 → (values : List ℕ) × (r ≡ Values values)
values_told Done is = absurd (omega (arith, is))
values_told (Denied why) is = absurd (omega (arith, is))
values_told (Name name) is = absurd (omega (arith, is))
values_told (Values values) is = (values, refl)
values_told (Edges edges) is = absurd (omega (arith, is))
values_told VerticesFull is = absurd (omega (arith, is))
values_told WorkersFull is = absurd (omega (arith, is))

no_making : (d : Deed) (r : Reply) → IsDeedOf d r → 16 ≤ (deed_out d).kind → (reply_out r).kind ≡ 3 → ⊥
no_making (Plain command.List) r is high three = omega (arith, high)
no_making (Plain asked_for) r is high three = omega (arith, high)
no_making (Create label law state) r is high three = let told = values_told r three in is.1 told.0 told.1
no_making (Spawn label law state) r is high three = let told = values_told r three in is.1 told.0 told.1

-- the making of a vertex isn't answered by values
pub none_of_values : (it : RecordOut) (numbers : List ℕ) (edges : List EdgeOut) (e : Entry) → 16 ≤ it.deed → it.reply ≡ 3 → IsEntryOf it numbers edges e → ⊥
none_of_values it numbers edges e high three is =
    let deed : (deed_out e.deed).kind ≡ it.deed = ap (λ (x : RecordOut). x.deed) is.written.told in
    let reply : (reply_out e.reply).kind ≡ it.reply = ap (λ (x : RecordOut). x.reply) is.written.told in
    no_making e.deed e.reply is.proper.deed (omega (arith, deed, high)) (reply ∙ three)

-- the lists are as long as the record says
pub counted : (it : RecordOut) (numbers : List ℕ) (edges : List EdgeOut) (e : Entry) → IsEntryOf it numbers edges e → (it.number_count ≡ length numbers) × (it.edge_count ≡ length edges)
counted it numbers edges e is = (
  sym (ap (λ (x : RecordOut). x.number_count) is.written.told) ∙ ap (λ (ns : List ℕ). length ns) is.written.all_numbers,
  sym (ap (λ (x : RecordOut). x.edge_count) is.written.told)
      ∙ sym (length-map (edges_entered e) edge_out)
      ∙ ap (λ (es : List EdgeOut). length es) is.written.all_edges,
)

numbers_go : (d : Deed) (r : Reply) → ((16 ≤ (deed_out d).kind) ⊎ ((reply_out r).kind ≡ 3)) ⊎ (numbers_replied d r ≡ [])
numbers_go (Create label law state) r = inl (inl (omega arith))
numbers_go (Spawn label law state) r = inl (inl (omega arith))
numbers_go (Plain asked_for) (Values values) = inl (inr refl)
numbers_go (Plain asked_for) Done = inr refl
numbers_go (Plain asked_for) (Denied why) = inr refl
numbers_go (Plain asked_for) (Name name) = inr refl
numbers_go (Plain asked_for) (Edges edges) = inr refl
numbers_go (Plain asked_for) VerticesFull = inr refl
numbers_go (Plain asked_for) WorkersFull = inr refl

edges_go : (r : Reply) → ((reply_out r).kind ≡ 4) ⊎ (edges_replied r ≡ [])
edges_go (Edges edges) = inl refl
edges_go Done = inr refl
edges_go (Denied why) = inr refl
edges_go (Name name) = inr refl
edges_go (Values values) = inr refl
edges_go VerticesFull = inr refl
edges_go WorkersFull = inr refl

-- the numbers go with the record, or there are none
pub numbers_may : (it : RecordOut) (numbers : List ℕ) (edges : List EdgeOut) (e : Entry) → IsEntryOf it numbers edges e → ((16 ≤ it.deed) ⊎ (it.reply ≡ 3)) ⊎ (length numbers ≡ 0)
numbers_may it numbers edges e is =
    subst (λ (x : RecordOut). ((16 ≤ x.deed) ⊎ (x.reply ≡ 3)) ⊎ (length numbers ≡ 0)) is.written.told
    (subst (λ (ns : List ℕ). ((16 ≤ (deed_out e.deed).kind) ⊎ ((reply_out e.reply).kind ≡ 3)) ⊎ (length ns ≡ 0)) is.written.all_numbers
    (elim (numbers_go e.deed e.reply) as (λ x. ((16 ≤ (deed_out e.deed).kind) ⊎ ((reply_out e.reply).kind ≡ 3)) ⊎ (length (numbers_entered e) ≡ 0)) [ inl may ↦ inl may | inr none ↦ inr (ap (λ (ns : List ℕ). length ns) none) ]))

pub edges_may : (it : RecordOut) (numbers : List ℕ) (edges : List EdgeOut) (e : Entry) → IsEntryOf it numbers edges e → (it.reply ≡ 4) ⊎ (length edges ≡ 0)
edges_may it numbers edges e is =
    subst (λ (x : RecordOut). (x.reply ≡ 4) ⊎ (length edges ≡ 0)) is.written.told
    (subst (λ (es : List EdgeOut). ((reply_out e.reply).kind ≡ 4) ⊎ (length es ≡ 0)) is.written.all_edges
    (elim (edges_go e.reply) as (λ x. ((reply_out e.reply).kind ≡ 4) ⊎ (length (map edge_out (edges_entered e)) ≡ 0)) [ inl may ↦ inl may | inr none ↦ inr (ap (λ (es : List (ℕ × RightSet)). length (map edge_out es)) none) ]))

-- ---- the form of a record

by_deed : (b c : Bool) (l : RightSet) (w : Law) (asked_for : Command) (ns ms : List ℕ) → deed_out (if b then Create l w ns else if c then Spawn l w ns else Plain asked_for) ≡ deed_out (if b then Create l w ms else if c then Spawn l w ms else Plain asked_for)
by_deed true c l w asked_for ns ms = refl
by_deed false true l w asked_for ns ms = refl
by_deed false false l w asked_for ns ms = refl

-- the lists of a deed and of a reply are told beside the record
deed_form : (it : RecordOut) (ns ms : List ℕ) → deed_out (deed_read it ns) ≡ deed_out (deed_read it ms)
deed_form it ns ms = by_deed (it.deed == 16) (it.deed == 17) (label_read it.rights) (law_read it.law it.most) (command_read it) ns ms

by_reply : (b c d f g h : Bool) (why : Denial) (name : ℕ) (ns ms : List ℕ) (es fs : List (ℕ × RightSet))
    → reply_out (if b then Denied why else if c then Name name else if d then Values ns else if f then Edges es else if g then VerticesFull else if h then WorkersFull else Done)
    ≡ reply_out (if b then Denied why else if c then Name name else if d then Values ms else if f then Edges fs else if g then VerticesFull else if h then WorkersFull else Done)
by_reply true c d f g h why name ns ms es fs = refl
by_reply false true d f g h why name ns ms es fs = refl
by_reply false false true f g h why name ns ms es fs = refl
by_reply false false false true g h why name ns ms es fs = refl
by_reply false false false false g h why name ns ms es fs = refl

reply_form : (it : RecordOut) (ns ms : List ℕ) (es fs : List (ℕ × RightSet)) → reply_out (reply_read it ns es) ≡ reply_out (reply_read it ms fs)
reply_form it ns ms es fs =
    by_reply (it.reply == 1) (it.reply == 2) (it.reply == 3) (it.reply == 4) (it.reply == 16) (it.reply == 17) (record { rule = rule_read it.denial.rule; cause = cause_read it.denial }) it.name ns ms es fs

-- what is read is reported as the record, but for the counts
form_told : (it : RecordOut) (numbers : List ℕ) (listed : List (ℕ × RightSet)) (n m : ℕ) → HasForm it
    → record_with it.worker (deed_out (deed_read it numbers)) (reply_out (reply_read it numbers listed)) n m ≡ record it { number_count = n; edge_count = m }
form_told it numbers listed n m form =
    (λ i. record_with it.worker (deed_form it numbers [] i) (reply_form it numbers [] listed [] i) n m)
    ∙ ap (λ (x : RecordOut). record x { number_count = n; edge_count = m }) form

-- ---- the labels of edges

label_some : (l : RightSet) → IsLabel l → IsSome (label_at (bits_of l))
label_some l is =
    let label_if : Bool → Option RightSet = λ b. if b then None else Some l in
    ap (λ (o : Option RightSet). is_some (if_some o)) (set_back l) ∙ ap (λ (b : Bool). is_some (label_if b)) is

pub labelled : (it : RecordOut) (numbers : List ℕ) (edges : List EdgeOut) (e : Entry) → IsEntryOf it numbers edges e → AreLabelled edges
labelled it numbers edges e is =
    subst AreLabelled is.written.all_edges
    (All-map (λ (edge : EdgeOut). IsSome (label_at edge.rights)) edge_out (edges_entered e)
    (All-weaker (λ (edge : ℕ × RightSet). IsLabel edge.1) (λ (edge : ℕ × RightSet). IsSome (label_at (bits_of edge.1))) (λ edge label. label_some edge.1 label) (edges_entered e) is.proper.edges))

bits_read : (bits : ℕ) → IsSome (label_at bits) → bits_of (label_read bits) ≡ bits
bits_read bits =
    cond_both (nat_lt bits bits_bound) (Some (of_bits bits)) None (λ (o : Option RightSet). IsSome (if_some o) → bits_of (label_or_read (if_some o)) ≡ bits)
    (λ low.
    cond_both (is_none_held (of_bits bits)) None (Some (of_bits bits)) (λ (o : Option RightSet). IsSome o → bits_of (label_or_read o) ≡ bits) (λ none some. absurd (cc some))
    (λ held some. bits_of-of_bits bits (ltb-true bits bits_bound low)))
    (λ high some. absurd (cc some))

edges_told : (edges : List EdgeOut) → AreLabelled edges → map edge_out (map edge_read edges) ≡ edges
edges_told [] are = refl
edges_told (edge ∷ edges) are =
    let is_some_label : (x : EdgeOut) → Type 0 = λ x. IsSome (label_at x.rights) in
    λ i. record { to = edge.to; rights = bits_read edge.rights (All-head is_some_label edge edges are) i } ∷ edges_told edges (All-tail is_some_label edge edges are) i

-- ---- what is read is reported so

plain_low : (asked_for : Command) → (deed_out (Plain asked_for)).kind < 16
plain_low command.List = omega arith
plain_low asked_for = omega arith

-- the numbers of what is read
numbers_read : (it : RecordOut) (numbers : List ℕ) (listed : List (ℕ × RightSet)) → ((16 ≤ it.deed) ⊎ (it.reply ≡ 3)) ⊎ (numbers ≡ [])
    → (deed_out (deed_read it numbers)).kind ≡ it.deed → numbers_replied (deed_read it numbers) (reply_read it numbers listed) ≡ numbers
numbers_read it numbers listed may =
    let r : Reply = reply_read it numbers listed in
    let P : Deed → Type 0 = λ d. (deed_out d).kind ≡ it.deed → numbers_replied d r ≡ numbers in
    cond_both (it.deed == 16) _ _ P (λ is kind. refl) (λ no.
    cond_both (it.deed == 17) _ _ P (λ is kind. refl) (λ no kind. plain_numbers it numbers listed (omega (arith, kind, plain_low (command_read it))) may))
  where
    plain_numbers : (it : RecordOut) (numbers : List ℕ) (listed : List (ℕ × RightSet)) → it.deed < 16 → ((16 ≤ it.deed) ⊎ (it.reply ≡ 3)) ⊎ (numbers ≡ []) → values_in (reply_read it numbers listed) ≡ numbers
    plain_numbers it numbers listed low (inl (inl high)) = absurd (omega (arith, low, high))
    plain_numbers it numbers listed low (inl (inr three)) =
        reply_is it numbers listed (λ (r : Reply). values_in r ≡ numbers) (λ d is. absurd (omega (arith, is, three))) (λ n is. absurd (omega (arith, is, three))) (λ is. refl) (λ is. absurd (omega (arith, is, three)))
        (λ is. absurd (omega (arith, is, three))) (λ is. absurd (omega (arith, is, three))) (λ not_three not_four. absurd (not_three three))
    plain_numbers it numbers listed low (inr none) =
        reply_is it numbers listed (λ (r : Reply). values_in r ≡ numbers) (λ d is. sym none) (λ n is. sym none) (λ is. refl) (λ is. sym none) (λ is. sym none) (λ is. sym none) (λ three four. sym none)

-- the edges of what is read
edges_read_of : (it : RecordOut) (numbers : List ℕ) (listed : List (ℕ × RightSet)) → (it.reply ≡ 4) ⊎ (listed ≡ []) → edges_replied (reply_read it numbers listed) ≡ listed
edges_read_of it numbers listed (inl four) =
    reply_is it numbers listed (λ (r : Reply). edges_replied r ≡ listed) (λ d is. absurd (omega (arith, is, four))) (λ n is. absurd (omega (arith, is, four))) (λ is. absurd (omega (arith, is, four))) (λ is. refl)
    (λ is. absurd (omega (arith, is, four))) (λ is. absurd (omega (arith, is, four))) (λ three not_four. absurd (not_four four))
edges_read_of it numbers listed (inr none) =
    reply_is it numbers listed (λ (r : Reply). edges_replied r ≡ listed) (λ d is. sym none) (λ n is. sym none) (λ is. sym none) (λ is. refl) (λ is. sym none) (λ is. sym none) (λ three four. sym none)

-- an entry's record has the form
pub form_of : (it : RecordOut) (numbers : List ℕ) (edges : List EdgeOut) (e : Entry) → IsEntryOf it numbers edges e → HasForm it
form_of it numbers edges e is =
    let same : record_of (entry_read it numbers edges) ≡ it = ap record_of (read_back it numbers edges e is) ∙ is.written.told in
    let kind : (deed_out (deed_read it [])).kind ≡ it.deed = ap (λ (d : DeedOut). d.kind) (deed_form it [] numbers) ∙ ap (λ (x : RecordOut). x.deed) same in
    let no_numbers : numbers_replied (deed_read it []) (reply_read it [] []) ≡ [] = numbers_read it [] [] (inr refl) kind in
    let no_edges : edges_replied (reply_read it [] []) ≡ [] = edges_read_of it [] [] (inr refl) in
    (λ i. record_with it.worker (deed_out (deed_read it [])) (reply_out (reply_read it [] [])) (length (no_numbers i)) (length (no_edges i)))
    ∙ (λ i. record_with it.worker (deed_form it [] numbers i) (reply_form it [] numbers [] (map edge_read edges) i) 0 0)
    ∙ ap (λ (x : RecordOut). record x { number_count = 0; edge_count = 0 }) same

-- a list that has no item
empty : {X : Type 0} (xs : List X) → length xs ≡ 0 → xs ≡ []
empty [] none = refl
empty (x ∷ xs) none = absurd (omega (arith, none))

-- the entry that is read is the one that is reported so
pub read_is_entry : (it : RecordOut) (numbers : List ℕ) (edges : List EdgeOut) → (16 ≤ it.deed → it.reply ≢ 3) → it.number_count ≡ length numbers → it.edge_count ≡ length edges
    → ((16 ≤ it.deed) ⊎ (it.reply ≡ 3)) ⊎ (length numbers ≡ 0) → (it.reply ≡ 4) ⊎ (length edges ≡ 0) → HasForm it → AreLabelled edges → IsEntryOf it numbers edges (entry_read it numbers edges)
read_is_entry it numbers edges none count edge_count may edges_may_be form labels =
    let listed : List (ℕ × RightSet) = map edge_read edges in
    let kind : (deed_out (deed_read it numbers)).kind ≡ it.deed = ap (λ (x : RecordOut). x.deed) (form_told it numbers listed 0 0 form) in
    let all_numbers : numbers_replied (deed_read it numbers) (reply_read it numbers listed) ≡ numbers =
    numbers_read it numbers listed (elim may as (λ x. ((16 ≤ it.deed) ⊎ (it.reply ≡ 3)) ⊎ (numbers ≡ [])) [ inl go ↦ inl go | inr nil ↦ inr (empty numbers nil) ]) kind in
    let all_listed : edges_replied (reply_read it numbers listed) ≡ listed =
    edges_read_of it numbers listed (elim edges_may_be as (λ x. (it.reply ≡ 4) ⊎ (listed ≡ [])) [ inl four ↦ inl four | inr nil ↦ inr (ap (λ (es : List EdgeOut). map edge_read es) (empty edges nil)) ]) in
    let length_numbers : length (numbers_entered (entry_read it numbers edges)) ≡ it.number_count = ap (λ (ns : List ℕ). length ns) all_numbers ∙ sym count in
    let length_edges : length (edges_entered (entry_read it numbers edges)) ≡ it.edge_count = ap (λ (es : List (ℕ × RightSet)). length es) all_listed ∙ length-map edges edge_read ∙ sym edge_count in
    record {
      written = record {
        told =
            (λ i. record_with it.worker (deed_out (deed_read it numbers)) (reply_out (reply_read it numbers listed)) (length_numbers i) (length_edges i))
            ∙ form_told it numbers listed it.number_count it.edge_count form;
        all_numbers = all_numbers;
        all_edges = ap (λ (es : List (ℕ × RightSet)). map edge_out es) all_listed ∙ edges_told edges labels;
      };
      proper = read_proper it numbers edges none;
    }
