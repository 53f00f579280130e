-- Classes of initial type names (the Definition, appendix E).
use Rattle.std.specs.Prelude.{Bool, true, false, ◌&&◌, ◌||◌, not, Option, Some, None}
use Rattle.sml_objects.specs.Names.{Initial, int, word, char, string, real}
use Rattle.sml_layers.specs.declared.class.Class.{Class}
use Rattle.sml_layers.specs.declared.class.Class.TheVariants.{WordInt, RealInt, Num, NumTxt}
use Rattle.sml_layers.specs.declared.class.Names.{Names}

-- int, and which others
abbrev pub names_in : Class → Names
names_in WordInt = record { word = true; real = false; text = false }
names_in RealInt = record { word = false; real = true; text = false }
names_in Num = record { word = true; real = true; text = false }
names_in NumTxt = record { word = true; real = true; text = true }

abbrev pub allows : Names → Initial → Bool
allows c int = true
allows c word = c.word
allows c real = c.real
allows c string = c.text
allows c char = c.text
allows c k = false

-- the names that both have
abbrev pub both_names : Names → Names → Names
both_names c d = record { word = c.word && d.word; real = c.real && d.real; text = c.text && d.text }

-- whether more names than int are left where equality may be asked
abbrev pub has_several : Option Names → Bool → Bool
has_several None e = false
has_several (Some c) e = c.word || (c.text || (c.real && not e))

-- whether int is the one name that is left, where equality may be asked
abbrev pub has_one : Option Names → Bool → Bool
has_one None e = false
has_one (Some c) e = not (has_several (Some c) e)
