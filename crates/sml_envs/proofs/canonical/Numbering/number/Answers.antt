use Rattle.sml_objects.specs.Views.{maker_of}
use Rattle.sml_envs.proofs.Numbers.{initial-stays, made-numbered, made-stays}
use Rattle.sml_envs.proofs.canonical.Numbering.number.Goals as goal

pub returns-in-Initial : goal.returns-in-Initial
returns-in-Initial c =
    let s = c.args.self.now in
    initial-stays (maker_of s.unit) s.count s.names.now.keys c.args.name c.in-Initial.field-0 c.in-Initial.is s.are_new

pub returns-in-Some : goal.returns-in-Some
returns-in-Some c =
    let s = c.args.self.now in
    made-numbered (maker_of s.unit) s.count s.names.now.keys c.args.name c.in-Made.made c.in-Some.place c.in-Made.is c.in-Some.ensures.found c.in-Some.ensures.index

pub returns-in-None : goal.returns-in-None
returns-in-None c =
    let s = c.args.self.now in
    made-stays (maker_of s.unit) s.count s.names.now.keys c.args.name c.in-Made.made c.in-Made.is c.in-None.ensures.found
