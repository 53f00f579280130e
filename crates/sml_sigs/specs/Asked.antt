-- How much a specification asks of the names that stand in those before it: nothing (0), whether they admit equality (1), or
-- also which of them are equal (2). A sharing of structures asks the most, a datatype or `where type` less, anything else
-- only what stands in it.
use Rattle.std.specs.Prelude.{ℕ, max}
use Rattle.sml_tree.specs.Signatures.{SigExp, Spec, Specs, StrDesc, StrDescs, sig_end, sig_name, where_type, val_spec, type_spec, eqtype_spec, datatype_spec, copy_spec, exception_spec, structure_spec, include_spec, sharing_types, sharing_structures, no_spec, and_spec, str_desc, no_str_desc, and_str_desc}
use Rattle.sml_sigs.specs.declared.asked.Asked.{Asked}
use Rattle.sml_sigs.specs.declared.asked.Asked.TheVariants.{Nothing, Equality, Names}

abbrev pub how_much : Asked → ℕ
how_much Nothing = 0
how_much Equality = 1
how_much Names = 2

abbrev mutual
  pub sig_asks : {P : Type 0} → SigExp P → ℕ
  sig_asks (sig_end p ss) = specs_ask ss
  sig_asks (sig_name p s) = 0
  sig_asks (where_type p s w) = max 1 (sig_asks s)

  pub spec_asks : {P : Type 0} → Spec P → ℕ
  spec_asks (val_spec p ds) = 0
  spec_asks (type_spec p ds) = 0
  spec_asks (eqtype_spec p ds) = 0
  spec_asks (datatype_spec p bs) = 1
  spec_asks (copy_spec p t u) = 0
  spec_asks (exception_spec p bs) = 0
  spec_asks (structure_spec p ds) = str_descs_ask ds
  spec_asks (include_spec p s) = sig_asks s
  spec_asks (sharing_types p ts) = 0
  spec_asks (sharing_structures p ss) = 2

  pub specs_ask : {P : Type 0} → Specs P → ℕ
  specs_ask no_spec = 0
  specs_ask (and_spec s ss) = max (spec_asks s) (specs_ask ss)

  pub str_desc_asks : {P : Type 0} → StrDesc P → ℕ
  str_desc_asks (str_desc x s) = sig_asks s

  pub str_descs_ask : {P : Type 0} → StrDescs P → ℕ
  str_descs_ask no_str_desc = 0
  str_descs_ask (and_str_desc d ds) = max (str_desc_asks d) (str_descs_ask ds)
