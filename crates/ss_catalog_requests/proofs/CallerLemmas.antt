-- What crates above may rely on: the lemmas of this crate that they cite.

-- A catalogue that changed in its bodies to be installed alone was read still, and these may stand in it.
pub use Rattle.ss_catalog_requests.proofs.Going.{same_goes_on, others_stand, was_read_still}
-- What fits a catalogue fits it still where it goes on with more bodies to be installed.
pub use Rattle.ss_catalog_requests.proofs.StillFits.{all_fit_still, fits_still}
