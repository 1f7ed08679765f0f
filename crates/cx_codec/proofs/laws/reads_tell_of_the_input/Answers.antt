use Rattle.cx_codec.proofs.Composing.{reads_there}
use Rattle.cx_codec.proofs.laws.reads_tell_of_the_input.Goals as goal

pub returns : goal.returns
returns g c = λ met view reader b b' left left' given given' result read. reads_there b b' left left' given given' read
