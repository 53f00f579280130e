-- Bytes spell one list of declarations.
use Rattle.std.proofs.Common.{◌≡◌, ℕ, List, map, Option, sym, ap, ◌∙◌, subst}
use Rattle.std.specs.List.{list_all}
use Rattle.std.specs.Option.{is_some}
use Rattle.sml_lex.specs.declared.fault.Place.{Place}
use Rattle.sml_lex.specs.declared.token.Token.{Token}
use Rattle.sml_lex.specs.declared.token.End.{End}
use Rattle.sml_lex.specs.Faults.{Fault}
use Rattle.sml_lex.specs.Pieces.{Spells}
use Rattle.sml_lex.proofs.Unique.{spelling_is_unique}
use Rattle.sml_tree.specs.Trees.{Dec}
use Rattle.sml_tree.specs.Structures.{TopDec}
use Rattle.sml_read.specs.declared.grammar.Node.{Node}
use Rattle.sml_read.specs.Spelling.{kinds_of}
use Rattle.sml_read.specs.Answer.{is_done, IsReading}
use Rattle.sml_read.specs.Extents.{starts_of}
use Rattle.sml_read.proofs.OneReading.{reading_one}
use Rattle.sml_reach.specs.Events.{text_at, events_of}
use Rattle.sml_reach.specs.Reach.{AreFitted, before_misfit, up_to}
use Rattle.sml_reach.proofs.OneOutcome.{fitting_one}
use Rattle.sml_flaws.specs.Flawed.{or_else, first_flawed}
use Rattle.sml_bare.specs.Derivations.{bare_decs, before_none}
use Rattle.sml_piece_trees.specs.Piece.{piece_of}
use Rattle.sml_parse.specs.Trees.{AreTrees, last_fault}

abbrev Same : List (TopDec Place) → List (TopDec Place) → List (Dec Place) → List (Dec Place) → Option (Fault Place) → Option (Fault Place) → Type 0
Same tops tops' decs decs' last last' = (tops ≡ tops') × (decs ≡ decs') × (last ≡ last')

-- the trees of the same tokens
tokens_one : (unit : List ℕ) (tokens : List Token) (end : End) (tops tops' : List (TopDec Place)) (decs decs' : List (Dec Place)) (last last' : Option (Fault Place))
    → AreTrees unit tokens end tops decs last → AreTrees unit tokens end tops' decs' last' → Same tops tops' decs decs' last last'
tokens_one unit tokens end tops tops' decs decs' last last' h k =
    let read = reading_one (kinds_of tokens) (is_done end) h.nodes k.nodes h.begun k.begun h.cause k.cause h.reading k.reading in
    let nodes = read.0 in
    let fits = subst (λ ns. AreFitted (text_at unit tokens) (events_of unit tokens ns (starts_of 0 ns)) h.fitted h.unfit) nodes h.fits in
    let fit = fitting_one (text_at unit tokens) (events_of unit tokens k.nodes (starts_of 0 k.nodes)) h.fitted k.fitted h.unfit k.unfit fits k.fits in
    let misfit = h.is_first ∙ (λ i. or_else (first_flawed (text_at unit tokens) 0 0 (nodes i) tokens (fit.0 i)) (fit.1 i)) ∙ sym k.is_first in
    let tops_are = h.made ∙ (λ i. before_none (up_to (before_misfit (misfit i)) (bare_decs unit tokens 0 (nodes i) (fit.0 i)))) ∙ sym k.made in (
      tops_are,
      h.piece ∙ ap (map piece_of) tops_are ∙ sym k.piece,
      h.ended ∙ (λ i. last_fault unit tokens end (read.1 i) (read.2 i) (misfit i) (list_all is_some (up_to (before_misfit (misfit i)) (bare_decs unit tokens 0 (nodes i) (fit.0 i))))) ∙ sym k.ended,
    )

pub trees_one : (bytes : List ℕ) (tokens others : List Token) (end stop : End) (tops tops' : List (TopDec Place)) (decs decs' : List (Dec Place)) (last last' : Option (Fault Place))
    → Spells bytes tokens end → Spells bytes others stop → AreTrees bytes tokens end tops decs last → AreTrees bytes others stop tops' decs' last' → Same tops tops' decs decs' last last'
trees_one bytes tokens others end stop tops tops' decs decs' last last' s r h k =
    let same = spelling_is_unique bytes tokens others end stop s r in
    tokens_one bytes others stop tops tops' decs decs' last last' (subst (λ e. AreTrees bytes others e tops decs last) same.1 (subst (λ ts. AreTrees bytes ts end tops decs last) same.0 h)) k
