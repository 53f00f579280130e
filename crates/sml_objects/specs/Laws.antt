-- The laws of renaming.
use Rattle.std.specs.Prelude.{◌≡◌, List, map}

pub record ObeysLaws {N X : Type 0} (rename : (N → N) → X → X) (names : X → List N) : Type 0 where
  pub identity : (x : X) → rename (λ n. n) x ≡ x
  pub composition : (f g : N → N) (x : X) → rename g (rename f x) ≡ rename (λ n. g (f n)) x
  -- the names of a renamed object
  pub image : (f : N → N) (x : X) → names (rename f x) ≡ map f (names x)
