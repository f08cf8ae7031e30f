-- Two and three levels obey the laws of an arithmetic.
use Rattle.std.specs.Prelude.{refl}
use Rattle.std.proofs.Common.{lit≤}
use Rattle.levels.specs.Arithmetic.{Lawful, two, three, plus_modulo}
use Rattle.levels.specs.Computed.{within}
use Rattle.levels.specs.Fields.{modulo_field}

-- two levels, of one bit each
pub lawful_two : Lawful two
lawful_two = record {
  field = modulo_field 2 refl;
  width = refl;
  fits = lit≤ tt;
  few = lit≤ tt;
  plus_fits = within 2 2 (plus_modulo 2) refl;
}

-- three levels, of two bits each; two bits that are no level have a sum within two bits
pub lawful_three : Lawful three
lawful_three = record {
  field = modulo_field 3 refl;
  width = refl;
  fits = lit≤ tt;
  few = lit≤ tt;
  plus_fits = within 4 4 (plus_modulo 3) refl;
}
