-- C21 and R9: the readings of a carrier's record and of a receiver's. Definitions only.
use Rattle.plain_timing.specs.Params as timing
use Rattle.plain_carrier.specs.declared.Carrier.{Carrier}
use Rattle.plain_receiver.specs.Receiver.{Receiver}
use Rattle.train_receiver.specs.declared.carrier_loop.CarrierReadings.{CarrierReadings}
use Rattle.train_receiver.specs.declared.whole.ReceiverReadings.{ReceiverReadings}

-- C21: the readings of a carrier
abbrev pub carrier_readings : Carrier → CarrierReadings
carrier_readings x =
    let p = x.params in
    let t = x.track in
    record {
      constellation = x.constellation;
      values = record { loop_bw = p.loop_bw; damping = p.damping; max_offset = p.max_offset };
      frequency = t.nco.freq;
      phase = t.nco.phase;
      lock_level = t.lock.level;
      locked = t.lock.locked;
    }

-- R9: the readings of a receiver: both loops' and the symbol count
abbrev pub receiver_readings : Receiver → ReceiverReadings
receiver_readings x = record { timing = timing.readings_of x.timing.params x.timing.track.clock; carrier = carrier_readings x.carrier; count = x.count }
