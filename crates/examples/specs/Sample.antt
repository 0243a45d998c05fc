-- What the bytes of a sample mean.
use Rattle.std.specs.Prelude.{ℕ, ℤ, refl}
use Rattle.std.specs.Int.{w32, w64}
use Rattle.concurrent_vector.specs.Bytes.{Encoding, Parts, of_parts, unsigned, signed}
use Rattle.examples.specs.declared.sample.Sample.{Sample}

abbrev pub sample_parts : Parts ℕ ℤ Sample
sample_parts = record { make = λ n v. record { sensor = n; value = v }; first = λ s. s.sensor; second = λ s. s.value; first_is = λ n v. refl; second_is = λ n v. refl; nothing_else = λ s. refl }

-- the sensor's bytes, then the value's
abbrev pub sample : Encoding Sample
sample = of_parts sample_parts (unsigned w32) (signed w64)
