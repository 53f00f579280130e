-- A text that grows by pieces, with the names that were numbered in it.
use Rattle.std.specs.Prelude.{ℕ, List, [], ◌∷◌, ◌++◌, cond, Some, None, length, nat_eq, map}
use Rattle.sml_objects.specs.Names.{Naming, int, word, char, string, bool, exn, real, list, ref}
use Rattle.sml_objects.specs.Initial.{Name, naming}
use Rattle.sml_objects.specs.Views.{name_of}
use Rattle.sml_objects.specs.Canonical.{index_of}
use Rattle.sml_texts.specs.Text.{Piece, byte, a_name, initial_among, spell}
use Rattle.sml_texts.specs.declared.texts.Lines.{Lines}
use Rattle.sml_texts.specs.declared.texts.Around.{Around}
use Rattle.sml_texts.specs.declared.texts.Around.TheVariants.{Nothing, Arrow, Part}

-- the names that are numbered after these pieces
unfoldable pub seen_after : {N : Type 0} → Naming N → List N → List (Piece N) → List N
seen_after names seen [] = seen
seen_after names seen (byte b ∷ ps) = seen_after names seen ps
seen_after names seen (a_name n ∷ ps) =
    elim (initial_among names (int ∷ word ∷ char ∷ string ∷ bool ∷ exn ∷ real ∷ list ∷ ref ∷ []) n) [
      | Some k ↦ seen_after names seen ps
      | None ↦ seen_after names (cond (nat_eq (index_of names n seen) (length seen)) (seen ++ n ∷ []) seen) ps
    ]

-- a text and the names numbered in it, with further pieces
unfoldable pub and_pieces : List ℕ × List Name → List (Piece Name) → List ℕ × List Name
and_pieces t ps = (t.0 ++ spell naming t.1 ps, seen_after naming t.1 ps)

abbrev pub lines_of : Lines → List ℕ × List Name
lines_of l = (l.text.items, map name_of l.names.keys)

abbrev pub level : Around → ℕ
level Nothing = 0
level Arrow = 1
level Part = 2
