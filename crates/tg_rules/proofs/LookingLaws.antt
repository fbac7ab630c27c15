-- A command that only looks leaves the content and the subjects as they were.
use Rattle.std.proofs.Common.{◌≡◌, ◌↔◌, ℕ, List, refl}
use Rattle.tg_model.specs.declared.command.Command.{Command}
use Rattle.tg_model.specs.declared.command.Command.TheVariants.{Read, Inspect, List as Listing, Take, Grant, Remove, Write, Append, Retire}
use Rattle.tg_model.specs.Rules.{subjects_after}
use Rattle.tg_rows.specs.Content.{Content}
use Rattle.tg_graph.proofs.StandingLaws.{IsSameContent-self}
use Rattle.tg_rules.specs.Effect.{ChangesNothing, IsContentAfter, IsLook, OnlyLooks}

pub content-looked : (c : Content) (x : ℕ) (command : Command) → OnlyLooks command → IsContentAfter c c x command
content-looked c x (Read y) looks = IsSameContent-self c
content-looked c x command looks = search (IsSameContent-self c)

pub subjects-looked : (subjects : List ℕ) (x : ℕ) (command : Command) → OnlyLooks command → subjects ≡ subjects_after subjects x command
subjects-looked subjects x (Read y) looks = refl
subjects-looked subjects x command looks = search

-- ---- in plain words

pub looks_are : (command : Command) → OnlyLooks command ↔ IsLook command
looks_are (Read y) = (λ looks. looks, λ looks. looks)
looks_are (Inspect y) = (λ looks. looks, λ looks. looks)
looks_are Listing = (λ looks. looks, λ looks. looks)
looks_are (Take rights y z) = (λ looks. looks, λ looks. looks)
looks_are (Grant rights y z) = (λ looks. looks, λ looks. looks)
looks_are (Remove rights y) = (λ looks. looks, λ looks. looks)
looks_are (Write y v) = (λ looks. looks, λ looks. looks)
looks_are (Append y v) = (λ looks. looks, λ looks. looks)
looks_are Retire = (λ looks. looks, λ looks. looks)

pub looks_change_nothing : (command : Command) → OnlyLooks command → ChangesNothing command
looks_change_nothing (Read y) looks = record { labels = λ label x. refl; values = λ value. refl; subjects = λ subjects x. refl }
looks_change_nothing (Inspect y) looks = record { labels = λ label x. refl; values = λ value. refl; subjects = λ subjects x. refl }
looks_change_nothing Listing looks = record { labels = λ label x. refl; values = λ value. refl; subjects = λ subjects x. refl }
looks_change_nothing (Take rights y z) looks = absurd looks
looks_change_nothing (Grant rights y z) looks = absurd looks
looks_change_nothing (Remove rights y) looks = absurd looks
looks_change_nothing (Write y v) looks = absurd looks
looks_change_nothing (Append y v) looks = absurd looks
looks_change_nothing Retire looks = absurd looks
