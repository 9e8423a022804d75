use Rattle.step_response.specs.Responding.{ready}
use Rattle.step_response.proofs.inner.response_into.Goals as goal

pub respond-requires : goal.respond-requires
respond-requires c = ready _ c.in_ok-responding.ensures
