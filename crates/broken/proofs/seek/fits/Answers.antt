use Rattle.broken.proofs.seek.fits.Goals as goal

pub returns : goal.returns
returns c = rw c.least_words.ensures.value
