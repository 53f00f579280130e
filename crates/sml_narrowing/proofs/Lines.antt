-- Rows as the code holds them.
use Rattle.std.proofs.Common.{◌≡◌, map, reverse, List, [], ◌∷◌, ◌++◌, ap, ◌∙◌}
use Rattle.std.proofs.lemmas.List.{reverse-append, map-append}
use Rattle.std.specs.Borrow.{Bor}
use Rattle.sml_narrowing.specs.declared.pattern.Pattern.{Pattern}
use Rattle.sml_narrowing.specs.Views.{plain_of}
use Rattle.sml_narrowing.specs.CodeTasks.{pointee, line}

pub line_push : (ps : List (Bor Pattern)) (p : Bor Pattern) → line (ps ++ p ∷ []) ≡ plain_of p.now ∷ line ps
line_push ps p = ap reverse (map-append pointee ps (p ∷ [])) ∙ reverse-append (map pointee ps) (plain_of p.now ∷ [])
