-- The hidden variables that are kept.
use Rattle.std.specs.Prelude.{◌≡◌, ℕ, List, Some, Vec, slice_get}
use Rattle.std.specs.Global.{Global}
use Rattle.std.specs.declared.rc.Rc.{Rc}
use Rattle.sml_tree.specs.Views.{ident_of}
use Rattle.sml_derived.specs.Words.{hidden}

-- each of these identifiers is the hidden variable of its number
abbrev pub AreHidden : List (Rc (Vec ℕ Global) Global) → Type 0
AreHidden idents = (n : ℕ) (x : Rc (Vec ℕ Global) Global) → slice_get idents n ≡ Some x → ident_of x ≡ hidden n
