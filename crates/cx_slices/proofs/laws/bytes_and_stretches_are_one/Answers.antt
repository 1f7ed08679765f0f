use Rattle.cx_slices.proofs.Stretches.{AreStretches-stretches_of, BytesRise-bytes_of, bytes_of-stretches_of, few_stretches, short_stretches, stretches_of-bytes_of}
use Rattle.cx_slices.proofs.laws.bytes_and_stretches_are_one.Goals as goal

pub returns-clause-bytes : goal.returns-clause-bytes
returns-clause-bytes c = bytes_of-stretches_of

pub returns-clause-are : goal.returns-clause-are
returns-clause-are c = AreStretches-stretches_of

pub returns-clause-stretches : goal.returns-clause-stretches
returns-clause-stretches c = stretches_of-bytes_of

pub returns-clause-rise : goal.returns-clause-rise
returns-clause-rise c = BytesRise-bytes_of

pub returns-clause-few : goal.returns-clause-few
returns-clause-few c = few_stretches

pub returns-clause-short : goal.returns-clause-short
returns-clause-short c = short_stretches
