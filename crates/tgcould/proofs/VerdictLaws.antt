-- From pictures to the graphs that they are of.
use Rattle.std.proofs.Common.{◌≡◌, ◌∙◌, ℕ, List, refl, sym, subst}
use Rattle.std.specs.List.{All}
use Rattle.clap.specs.declared.parser.matches.ArgMatches.{ArgMatches}
use Rattle.tg_model.specs.Graph.{ProtectionGraph}
use Rattle.tg_model.specs.Picture.{Shown, IsPictureOf}
use Rattle.tg_could.specs.Turns.{NeverHolds}
use Rattle.tgcould.specs.declared.options.TheConstants.{NEVER}
use Rattle.tgcould.specs.declared.query.Query.{Query}
use Rattle.tgcould.specs.declared.query.Query.TheVariants.{Hold, Who, What}
use Rattle.tgcould.specs.declared.query.VertexWord.{VertexWord}
use Rattle.tgcould.specs.declared.query.VertexWord.TheVariants.{Named, New}
use Rattle.tgcould.specs.declared.supposed.Supposed.{Supposed}
use Rattle.tgcould.specs.Policies.{IsKeptPolicy, texts_of}
use Rattle.tg_could.specs.Reached.{JoinsMade}
use Rattle.tgcould.specs.Supposed.{Supposes}
use Rattle.tg_could.specs.Reached.{with_edges}
use Rattle.tgcould.specs.Told.{NeverComes, named_in}
use Rattle.tgcould.specs.Verdict.{AreKept, IsKeptOn, NeverComesOn, named_on}

-- a vertex of a question has one name on both
same_name : (p : Shown) (g : ProtectionGraph) → IsPictureOf p g → (v : VertexWord) → named_in p v ≡ named_on g v
same_name p g picture (Named name) = refl
same_name p g picture New = sym picture.made

never_on : (p : Shown) (g : ProtectionGraph) (silent : List ℕ) → IsPictureOf p g → (question : Query) → NeverComes p silent question → NeverComesOn g silent question
never_on p g silent picture (Hold x right y) never =
    subst (λ (n : ℕ). NeverHolds silent g (named_on g x) right n) (same_name p g picture y)
    (subst (λ (n : ℕ). NeverHolds silent g n right (named_in p y)) (same_name p g picture x) (never g picture))
never_on p g silent picture (Who right y) never =
    λ x. subst (λ (n : ℕ). NeverHolds silent g x right n) (same_name p g picture y) (never x g picture)
never_on p g silent picture (What x) never =
    λ right y. subst (λ (n : ℕ). NeverHolds silent g n right y) (same_name p g picture x) (never right y g picture)

kept_on : (p : Shown) (g : ProtectionGraph) (silent text : List ℕ) → IsPictureOf p g → IsKeptPolicy p silent text → IsKeptOn g silent text
kept_on p g silent text picture kept = record {
  question = kept.question;
  is = kept.is;
  never = never_on p g silent picture kept.question kept.never;
}

-- what is kept on a picture is kept on the graph
pub all_kept_on : (p : Shown) (g : ProtectionGraph) (silent : List ℕ) (texts : List (List ℕ)) → IsPictureOf p g → All (IsKeptPolicy p silent) texts → All (IsKeptOn g silent) texts
all_kept_on p g silent texts picture all = λ k d inside. kept_on p g silent _ picture (all k d inside)

-- what is kept on the picture with the supposed edges
pub all_kept_supposed : (p q : Shown) (matches : ArgMatches) (supposed : Supposed) (made : ℕ) → made ≡ p.made → All (JoinsMade made) supposed.edges.items →
    Supposes p supposed.edges.items q → All (IsKeptPolicy q supposed.silent.items) (texts_of matches NEVER.now) → AreKept matches supposed p
all_kept_supposed p q matches supposed made same joined supposes kept =
    λ g picture.
    all_kept_on q (with_edges g supposed.edges.items) supposed.silent.items (texts_of matches NEVER.now)
    (supposes g picture (subst (λ (m : ℕ). All (JoinsMade m) supposed.edges.items) (same ∙ sym picture.made) joined)) kept
