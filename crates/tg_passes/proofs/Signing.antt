-- Laws of entries with who made them: of several lists in a row, of one maker, and of a worker of whom the keeper made none.
use Rattle.std.proofs.Common.{◌≡◌, ◌≢◌, ◌∙◌, ℕ, ◌==◌, List, [], ◌∷◌, ◌++◌, Bool, true, false, true≢false, length, append_assoc, append-nil, refl, sym, ap, ⊎_elim, arith}
use Rattle.std.specs.List.{All, filter}
use Rattle.std.proofs.lemmas.Bool.{cases_eq, eq-eqb, ne_eqb}
use Rattle.std.proofs.lemmas.Bool.Decides.{nat_tests}
use Rattle.std.proofs.lemmas.List.{map-append}
use Rattle.std.proofs.lemmas.List.Elements.{All-cons, All-head, All-nil, All-tail, filter-append}
use Rattle.tg_journal.specs.declared.entry.Entry.{Entry}
use Rattle.tg_passes.specs.declared.signed.Maker.{Maker}
use Rattle.tg_passes.specs.declared.signed.Maker.TheVariants.{Session, Keeper}
use Rattle.tg_passes.specs.declared.signed.Signed.{Signed}
use Rattle.tg_passes.specs.Passes.{AreOwn, BeginsWith, MayMake, entries_by, entries_of, is_same, own_entries, sign, sign_all}

-- ---- lists that begin with others

-- a list begins with itself, and with nothing; a longer list begins with what it began with
pub whole : {A : Type 0} (all : List A) → BeginsWith all all
whole all = ([], sym (append-nil all))

pub nothing : {A : Type 0} (all : List A) → BeginsWith all []
nothing all = (all, refl)

pub longer : {A : Type 0} (all front more : List A) → BeginsWith all front → BeginsWith (all ++ more) front
longer all front more b = (b.0 ++ more, ap (λ l. l ++ more) b.1 ∙ append_assoc front b.0 more)

pub begins_again : {A : Type 0} (all front first : List A) → BeginsWith all front → BeginsWith front first → BeginsWith all first
begins_again all front first b c = (c.0 ++ b.0, b.1 ∙ ap (λ l. l ++ b.0) c.1 ∙ append_assoc first c.0 b.0)

-- ---- makers

abbrev maker_name : Maker → ℕ
maker_name (Session worker) = worker
maker_name Keeper = 0

abbrev is_session : Maker → Bool
is_session (Session worker) = true
is_session Keeper = false

pub session_keeper : (worker : ℕ) → Session worker ≢ Keeper
session_keeper worker is = true≢false (ap is_session is)

pub same_self : (maker : Maker) → is_same maker maker ≡ true
same_self (Session worker) = eq-eqb worker worker refl
same_self Keeper = refl

pub not_same : (one other : Maker) → one ≢ other → is_same one other ≡ false
not_same (Session v) (Session w) isnt = ne_eqb v w (λ e. isnt (ap Session e))
not_same (Session v) Keeper isnt = refl
not_same Keeper (Session w) isnt = refl
not_same Keeper Keeper isnt = absurd (isnt refl)

-- ---- entries of several lists in a row

pub entries_append : (xs ys : List Signed) → entries_of (xs ++ ys) ≡ entries_of xs ++ entries_of ys
entries_append xs ys = map-append (λ (s : Signed). s.entry) xs ys

pub by_append : (maker : Maker) (xs ys : List Signed) → entries_by maker (xs ++ ys) ≡ entries_by maker xs ++ entries_by maker ys
by_append maker xs ys = ap entries_of (filter-append (λ (s : Signed). is_same s.by maker) xs ys) ∙ entries_append (filter (λ (s : Signed). is_same s.by maker) xs) (filter (λ (s : Signed). is_same s.by maker) ys)

pub own_append : (worker : ℕ) (xs ys : List Entry) → own_entries worker (xs ++ ys) ≡ own_entries worker xs ++ own_entries worker ys
own_append worker xs ys = filter-append (λ (e : Entry). e.worker == worker) xs ys

pub begins_entries : (all front : List Signed) → BeginsWith all front → BeginsWith (entries_of all) (entries_of front)
begins_entries all front b = (entries_of b.0, ap entries_of b.1 ∙ entries_append front b.0)

-- ---- entries of one maker

pub by_one : (maker : Maker) (e : Entry) → entries_by maker (sign maker e ∷ []) ≡ e ∷ []
by_one maker e = let is = same_self maker in grind (arith, is)

pub by_other : (one other : Maker) (e : Entry) → one ≢ other → entries_by other (sign one e ∷ []) ≡ []
by_other one other e isnt = let is = not_same one other isnt in grind (arith, is)

pub entries_signed : (maker : Maker) (es : List Entry) → entries_of (sign_all maker es) ≡ es
entries_signed maker [] = refl
entries_signed maker (e ∷ es) = ap (λ l. e ∷ l) (entries_signed maker es)

pub by_signed : (maker : Maker) (es : List Entry) → entries_by maker (sign_all maker es) ≡ es
by_signed maker [] = refl
by_signed maker (e ∷ es) = by_append maker (sign maker e ∷ []) (sign_all maker es) ∙ (λ i. by_one maker e i ++ by_signed maker es i)

pub by_others : (one other : Maker) (es : List Entry) → one ≢ other → entries_by other (sign_all one es) ≡ []
by_others one other [] isnt = refl
by_others one other (e ∷ es) isnt = by_append other (sign one e ∷ []) (sign_all one es) ∙ (λ i. by_other one other e isnt i ++ by_others one other es isnt i)

-- ---- the entries of one worker

pub only_own : (worker : ℕ) (e : Entry) → e.worker ≡ worker → own_entries worker (e ∷ []) ≡ e ∷ []
only_own worker e is = grind (arith, nat_tests)

pub no_own : (worker : ℕ) (e : Entry) → e.worker ≢ worker → own_entries worker (e ∷ []) ≡ []
no_own worker e isnt = grind (arith, nat_tests)

-- who makes entries of its own alone
pub own_signed : (maker : Maker) (es : List Entry) → All (MayMake maker) es → AreOwn (sign_all maker es)
own_signed maker [] may = All-nil (λ (s : Signed). MayMake s.by s.entry)
own_signed maker (e ∷ es) may = All-cons (λ (s : Signed). MayMake s.by s.entry) (sign maker e) (sign_all maker es) (All-head (MayMake maker) e es may) (own_signed maker es (All-tail (MayMake maker) e es may))

-- nothing is in either of two lists that are nothing together
pub none_first : {A : Type 0} (xs ys : List A) → xs ++ ys ≡ [] → xs ≡ []
none_first [] ys none = refl
none_first (x ∷ xs) ys none = let l = ap length none in absurd (omega arith)

pub none_second : {A : Type 0} (xs ys : List A) → xs ++ ys ≡ [] → ys ≡ []
none_second [] ys none = none
none_second (x ∷ xs) ys none = let l = ap length none in absurd (omega arith)

-- one entry, of a worker of whom the keeper made none
by_session : (worker : ℕ) (maker : Maker) (e : Entry) → MayMake maker e → own_entries worker (entries_by Keeper (sign maker e ∷ [])) ≡ [] → own_entries worker (e ∷ []) ≡ entries_by (Session worker) (sign maker e ∷ [])
by_session worker Keeper e may none = none
by_session worker (Session v) e may none =
    ⊎_elim
    (λ (is : v ≡ worker). only_own worker e (may ∙ is) ∙ sym (by_one (Session worker) e) ∙ (λ i. entries_by (Session worker) (sign (Session (sym is i)) e ∷ [])))
    (λ (isnt : v ≢ worker). no_own worker e (λ is. isnt (sym may ∙ is)) ∙ sym (by_other (Session v) (Session worker) e (λ is. isnt (ap maker_name is))))
    (cases_eq v worker)

-- Of a worker of whom the keeper made no entry, all entries are those that its session made.
pub own_by_session : (worker : ℕ) (all : List Signed) → AreOwn all → own_entries worker (entries_by Keeper all) ≡ [] → own_entries worker (entries_of all) ≡ entries_by (Session worker) all
own_by_session worker [] own none = refl
own_by_session worker (s ∷ ss) own none =
    let Own : Signed → Type 0 = λ x. MayMake x.by x.entry in
    let parts : own_entries worker (entries_by Keeper (s ∷ [])) ++ own_entries worker (entries_by Keeper ss) ≡ [] =
    sym (own_append worker (entries_by Keeper (s ∷ [])) (entries_by Keeper ss)) ∙ ap (own_entries worker) (sym (by_append Keeper (s ∷ []) ss)) ∙ none in
    let first = by_session worker s.by s.entry (All-head Own s ss own) (none_first (own_entries worker (entries_by Keeper (s ∷ []))) (own_entries worker (entries_by Keeper ss)) parts) in
    let rest = own_by_session worker ss (All-tail Own s ss own) (none_second (own_entries worker (entries_by Keeper (s ∷ []))) (own_entries worker (entries_by Keeper ss)) parts) in
    own_append worker (s.entry ∷ []) (entries_of ss) ∙ (λ i. first i ++ rest i) ∙ sym (by_append (Session worker) (s ∷ []) ss)

-- what is of the whole is of a front
pub owned_front : (front rest : List Signed) → AreOwn (front ++ rest) → AreOwn front
owned_front [] rest own = All-nil (λ (s : Signed). MayMake s.by s.entry)
owned_front (s ∷ front) rest own =
    let Own : Signed → Type 0 = λ x. MayMake x.by x.entry in
    All-cons Own s front (All-head Own s (front ++ rest) own) (owned_front front rest (All-tail Own s (front ++ rest) own))
