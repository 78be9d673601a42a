use Rattle.spell.specs.Internal.Writes.{fits}
use Rattle.spell.proofs.fits.fits_form.Goals as goal

pub returns : goal.returns
unfolding fits
returns c = c.is_spelling.ensures
