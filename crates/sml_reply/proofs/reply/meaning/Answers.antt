use Rattle.std.proofs.Common.{ap, sym}
use Rattle.sml_texts.specs.Text.{meaning}
use Rattle.sml_reply.proofs.reply.meaning.Goals as goal

pub returns-in-L1 : goal.returns-in-L1
unfolding meaning
returns-in-L1 c = ap meaning (sym c.in-L1.is)

pub returns-in-L2 : goal.returns-in-L2
unfolding meaning
returns-in-L2 c = ap meaning (sym c.in-L2.is)

pub returns-in-L3 : goal.returns-in-L3
unfolding meaning
returns-in-L3 c = ap meaning (sym c.in-L3.is)

pub returns-in-L4 : goal.returns-in-L4
unfolding meaning
returns-in-L4 c = ap meaning (sym c.in-L4.is)

pub returns-in-L5 : goal.returns-in-L5
unfolding meaning
returns-in-L5 c = ap meaning (sym c.in-L5.is)

pub returns-in-L6 : goal.returns-in-L6
unfolding meaning
returns-in-L6 c = ap meaning (sym c.in-L6.is)

pub returns-in-S1 : goal.returns-in-S1
unfolding meaning
returns-in-S1 c = ap meaning (sym c.in-S1.is)

pub returns-in-S2 : goal.returns-in-S2
unfolding meaning
returns-in-S2 c = ap meaning (sym c.in-S2.is)

pub returns-in-S3 : goal.returns-in-S3
unfolding meaning
returns-in-S3 c = ap meaning (sym c.in-S3.is)

pub returns-in-F1 : goal.returns-in-F1
unfolding meaning
returns-in-F1 c = ap meaning (sym c.in-F1.is)

pub returns-in-F2 : goal.returns-in-F2
unfolding meaning
returns-in-F2 c = ap meaning (sym c.in-F2.is)

pub returns-in-F3 : goal.returns-in-F3
unfolding meaning
returns-in-F3 c = ap meaning (sym c.in-F3.is)

pub returns-in-F4 : goal.returns-in-F4
unfolding meaning
returns-in-F4 c = ap meaning (sym c.in-F4.is)

pub returns-in-G1 : goal.returns-in-G1
unfolding meaning
returns-in-G1 c = ap meaning (sym c.in-G1.is)

pub returns-in-G2 : goal.returns-in-G2
unfolding meaning
returns-in-G2 c = ap meaning (sym c.in-G2.is)

pub returns-in-G3 : goal.returns-in-G3
unfolding meaning
returns-in-G3 c = ap meaning (sym c.in-G3.is)

pub returns-in-G4 : goal.returns-in-G4
unfolding meaning
returns-in-G4 c = ap meaning (sym c.in-G4.is)

pub returns-in-G5 : goal.returns-in-G5
unfolding meaning
returns-in-G5 c = ap meaning (sym c.in-G5.is)

pub returns-in-U1 : goal.returns-in-U1
unfolding meaning
returns-in-U1 c = ap meaning (sym c.in-U1.is)

pub returns-in-U2 : goal.returns-in-U2
unfolding meaning
returns-in-U2 c = ap meaning (sym c.in-U2.is)

pub returns-in-U3 : goal.returns-in-U3
unfolding meaning
returns-in-U3 c = ap meaning (sym c.in-U3.is)

pub returns-in-U4 : goal.returns-in-U4
unfolding meaning
returns-in-U4 c = ap meaning (sym c.in-U4.is)

pub returns-in-U5 : goal.returns-in-U5
unfolding meaning
returns-in-U5 c = ap meaning (sym c.in-U5.is)

pub returns-in-U6 : goal.returns-in-U6
unfolding meaning
returns-in-U6 c = ap meaning (sym c.in-U6.is)

pub returns-in-U7 : goal.returns-in-U7
unfolding meaning
returns-in-U7 c = ap meaning (sym c.in-U7.is)

pub returns-in-E1 : goal.returns-in-E1
unfolding meaning
returns-in-E1 c = ap meaning (sym c.in-E1.is)

pub returns-in-E2 : goal.returns-in-E2
unfolding meaning
returns-in-E2 c = ap meaning (sym c.in-E2.is)

pub returns-in-E3 : goal.returns-in-E3
unfolding meaning
returns-in-E3 c = ap meaning (sym c.in-E3.is)

pub returns-in-E4 : goal.returns-in-E4
unfolding meaning
returns-in-E4 c = ap meaning (sym c.in-E4.is)

pub returns-in-E5 : goal.returns-in-E5
unfolding meaning
returns-in-E5 c = ap meaning (sym c.in-E5.is)

pub returns-in-E6 : goal.returns-in-E6
unfolding meaning
returns-in-E6 c = ap meaning (sym c.in-E6.is)

pub returns-in-E7 : goal.returns-in-E7
unfolding meaning
returns-in-E7 c = ap meaning (sym c.in-E7.is)

pub returns-in-E8 : goal.returns-in-E8
unfolding meaning
returns-in-E8 c = ap meaning (sym c.in-E8.is)

pub returns-in-E9 : goal.returns-in-E9
unfolding meaning
returns-in-E9 c = ap meaning (sym c.in-E9.is)

pub returns-in-E10 : goal.returns-in-E10
unfolding meaning
returns-in-E10 c = ap meaning (sym c.in-E10.is)

pub returns-in-N1 : goal.returns-in-N1
unfolding meaning
returns-in-N1 c = ap meaning (sym c.in-N1.is)

pub returns-in-N2 : goal.returns-in-N2
unfolding meaning
returns-in-N2 c = ap meaning (sym c.in-N2.is)

pub returns-in-N3 : goal.returns-in-N3
unfolding meaning
returns-in-N3 c = ap meaning (sym c.in-N3.is)

pub returns-in-N4 : goal.returns-in-N4
unfolding meaning
returns-in-N4 c = ap meaning (sym c.in-N4.is)

pub returns-in-N5 : goal.returns-in-N5
unfolding meaning
returns-in-N5 c = ap meaning (sym c.in-N5.is)

pub returns-in-N6 : goal.returns-in-N6
unfolding meaning
returns-in-N6 c = ap meaning (sym c.in-N6.is)

pub returns-in-N7 : goal.returns-in-N7
unfolding meaning
returns-in-N7 c = ap meaning (sym c.in-N7.is)

pub returns-in-M1 : goal.returns-in-M1
unfolding meaning
returns-in-M1 c = ap meaning (sym c.in-M1.is)

pub returns-in-M2 : goal.returns-in-M2
unfolding meaning
returns-in-M2 c = ap meaning (sym c.in-M2.is)

pub returns-in-M3 : goal.returns-in-M3
unfolding meaning
returns-in-M3 c = ap meaning (sym c.in-M3.is)

pub returns-in-M4 : goal.returns-in-M4
unfolding meaning
returns-in-M4 c = ap meaning (sym c.in-M4.is)

pub returns-in-M5 : goal.returns-in-M5
unfolding meaning
returns-in-M5 c = ap meaning (sym c.in-M5.is)

pub returns-in-M6 : goal.returns-in-M6
unfolding meaning
returns-in-M6 c = ap meaning (sym c.in-M6.is)

pub returns-in-M7 : goal.returns-in-M7
unfolding meaning
returns-in-M7 c = ap meaning (sym c.in-M7.is)

pub returns-in-Q1 : goal.returns-in-Q1
unfolding meaning
returns-in-Q1 c = ap meaning (sym c.in-Q1.is)

pub returns-in-Q2 : goal.returns-in-Q2
unfolding meaning
returns-in-Q2 c = ap meaning (sym c.in-Q2.is)

pub returns-in-Q3 : goal.returns-in-Q3
unfolding meaning
returns-in-Q3 c = ap meaning (sym c.in-Q3.is)

pub returns-in-P1 : goal.returns-in-P1
unfolding meaning
returns-in-P1 c = ap meaning (sym c.in-P1.is)

pub returns-in-P2 : goal.returns-in-P2
unfolding meaning
returns-in-P2 c = ap meaning (sym c.in-P2.is)

pub returns-in-P3 : goal.returns-in-P3
unfolding meaning
returns-in-P3 c = ap meaning (sym c.in-P3.is)
