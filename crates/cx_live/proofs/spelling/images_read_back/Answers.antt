use Rattle.cx_live.proofs.Images.{image_again, whole_again}
use Rattle.cx_live.proofs.spelling.images_read_back.Goals as goal

pub returns-clause-again : goal.returns-clause-again
returns-clause-again c = image_again

pub returns-clause-whole : goal.returns-clause-whole
returns-clause-whole c = whole_again
