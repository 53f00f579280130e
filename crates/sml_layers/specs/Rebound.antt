-- Demands with other bounds.
use Rattle.std.specs.List.{AllByRecursion}
use Rattle.sml_layers.specs.Demands.{Ask, within, equality, of_class, variable, Demand, equal, has_fields, asks, Mentions}

abbrev pub rebound_ask : {B C : Type 0} → (B → C) → Ask B → Ask C
rebound_ask f (within k b) = within k (f b)
rebound_ask f equality = equality
rebound_ask f (of_class c) = of_class c
rebound_ask f (variable x) = variable x

-- each bound replaced
abbrev pub rebound : {N B C : Type 0} → (B → C) → Demand N B → Demand N C
rebound f (equal t u) = equal t u
rebound f (has_fields t fs) = has_fields t fs
rebound f (asks a t) = asks (rebound_ask f a) t

-- All names that the demand's types mention are such.
abbrev pub DemandMentions : {N B : Type 0} → (N → Type 0) → Demand N B → Type 0
DemandMentions P (equal t u) = Mentions P t × Mentions P u
DemandMentions P (has_fields t fs) = Mentions P t × AllByRecursion (λ f. Mentions P f.1) fs
DemandMentions P (asks a t) = Mentions P t
