-- What the options suppose: who takes no turns, and edges that are asked about as if they were there.
use Rattle.std.specs.Prelude.{◌≡◌, ◌≢◌, ℕ, List, ◌++◌, codes}
use Rattle.std.specs.List.{All, AllZip}
use Rattle.clap.specs.declared.parser.matches.ArgMatches.{ArgMatches}
use Rattle.tg_model.specs.declared.edge.Edge.{Edge}
use Rattle.tg_model.specs.Graph.{ProtectionGraph}
use Rattle.tg_model.specs.Picture.{Shown, IsPictureOf}
use Rattle.tg_could.specs.Reached.{JoinsMade, with_edges}
use Rattle.tg_text.specs.declared.line.Line.TheVariants as line
use Rattle.tg_text.specs.Grammar.{line_text}
use Rattle.tgcould.specs.declared.options.TheConstants.{SILENT, AS_IF}
use Rattle.tgcould.specs.declared.supposed.Supposed.{Supposed}
use Rattle.tgcould.specs.Policies.{WritesWord, texts_of}

-- after `edge ` the text is the line of this edge, which joins two different vertices
pub record WritesEdge (text : List ℕ) (edge : Edge) : Type 0 where
  pub is : codes "edge " ++ text ≡ line_text (line.Edge edge)
  pub differ : edge.from ≢ edge.to

-- each text writes the name at its place, and there are no other names
abbrev pub AreNameTexts : List (List ℕ) → List ℕ → Type 0
AreNameTexts texts names = AllZip WritesWord texts names

-- each text writes the edge at its place, and there are no other edges
abbrev pub AreEdges : List (List ℕ) → List Edge → Type 0
AreEdges texts edges = AllZip WritesEdge texts edges

-- exactly what all values of the two options write
pub record IsSupposed (matches : ArgMatches) (supposed : Supposed) : Type 0 where
  pub silent : AreNameTexts (texts_of matches SILENT.now) supposed.silent.items
  pub edges : AreEdges (texts_of matches AS_IF.now) supposed.edges.items

-- ---- the graph that is asked about

-- of each graph that the one is a picture of, and that has both ends of these edges, the other is a picture with the edges
abbrev pub Supposes : Shown → List Edge → Shown → Type 0
Supposes old edges new = (g : ProtectionGraph) → IsPictureOf old g → All (JoinsMade g.made) edges → IsPictureOf new (with_edges g edges)
