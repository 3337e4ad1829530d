use Rattle.lr_headline.specs.Closing.{run_of}
use Rattle.lr_headline.proofs.laws.runs_serve.Goals as goal

pub returns : goal.returns
returns c k opening closing is led chunks apart =
    c.images_are_served.ensures k.objects.start k.lines (run_of k opening closing) (c.runs_are_whole.ensures k opening closing is led chunks) apart
