-- Copies of what a reply holds.
use Rattle.std.proofs.Common.{◌≡◌, ℕ, List, Option, Some, None, Vec, Global}
use Rattle.std.specs.Option.{option_map}

-- the bytes of a vector, if there is one
abbrev pub bytes : Option (Vec ℕ Global) → Option (List ℕ)
bytes o = option_map (λ v. v.items) o

abbrev pub detail : Option (Vec ℕ Global) → Option (List ℕ)
detail o = elim o [ Some v ↦ Some v.items | None ↦ None ]

pub detail_same : (a b : Option (Vec ℕ Global)) → bytes a ≡ bytes b → detail a ≡ detail b
detail_same (Some x) (Some y) e = e
detail_same (Some x) None e = e
detail_same None (Some y) e = e
detail_same None None e = e
