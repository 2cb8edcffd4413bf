use Rattle.convoy_sim.proofs.DeliveryTick as tick
use Rattle.convoy_sim.proofs.protocol_laws.delivery_is_least.Goals as goal

pub returns : goal.returns
returns c = tick.delivery_is_least
