-- What holds of a long text does not depend on `last`.
use Rattle.http_wire.proofs.trailers.look_trailers.Goals as goal

pub returns-else-text-lt-MAX_TRAILER_BYTES : goal.returns-else-text-lt-MAX_TRAILER_BYTES
returns-else-text-lt-MAX_TRAILER_BYTES c = c.look_full.ensures c.args.last
