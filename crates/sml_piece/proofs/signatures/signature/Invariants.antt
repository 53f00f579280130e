use Rattle.std.proofs.Common.{◌≡◌, ◌+◌, List, [], map, drop, length}
use Rattle.sml_lex.specs.declared.fault.Place.{Place}
use Rattle.sml_tree.specs.Views.{spec_of}
use Rattle.sml_objects.specs.Objects.{Basis, Sig, names_basis, names_sig}
use Rattle.sml_objects.specs.Initial.{Name, naming}
use Rattle.sml_objects.specs.Views.{env_of, maker_of}
use Rattle.sml_rules.specs.Every.{Every}
use Rattle.sml_rules.specs.Rules.{Item}
use Rattle.sml_rules.specs.Answers.{Answer}
use Rattle.sml_rules.specs.Readings.{read_specs}
use Rattle.sml_piece.specs.Elaborated.{Shows, Tells, IsBelow, no_local, no_signature, signature_of, summed}
use Rattle.sml_piece.proofs.signatures.signature.Given as goal

abbrev pub invariant-loop-spec : goal.invariant-loop-spec
invariant-loop-spec l =
    (B : Basis Name) → B.body ≡ env_of l.basis.env → Every (IsBelow (maker_of l.basis.unit) (length l.basis.names.items)) (names_basis B)
    → (C : Basis Name) × (seen : List Item) × Shows no_local (env_of l.basis.env) (env_of l.sig.body) C.body
    × Every (IsBelow (maker_of l.basis.unit) (length l.basis.names.items + length l.sig.names.items)) (names_basis C)
    × Every (IsBelow (maker_of l.basis.unit) (length l.basis.names.items + length l.sig.names.items)) (names_sig (signature_of l.sig))
    × Tells seen (env_of l.sig.body)
    × ((o : Answer Place (Sig Name)) → summed (signature_of l.sig) (read_specs naming (maker_of l.basis.unit) C seen (map spec_of (drop l.spec-index l.specs))) o
    → summed no_signature (read_specs naming (maker_of l.basis.unit) B [] (map spec_of l.specs)) o)
