-- `answer` is safe: each double of a forecast is a number, so it has bits.
use Rattle.cash.proofs.Theorem.{every_number}
use Rattle.vectors.proofs.forecasts.answer.Goals as goal

pub float_to_bits-bits : goal.float_to_bits-bits
float_to_bits-bits c = (every_number _ _ _ _ c.forecast-f.ensures).pay_number

pub float_to_bits-bits-2 : goal.float_to_bits-bits-2
float_to_bits-bits-2 c = (every_number _ _ _ _ c.forecast-f.ensures).receive_number

pub float_to_bits-bits-3 : goal.float_to_bits-bits-3
float_to_bits-bits-3 c = (every_number _ _ _ _ c.forecast-f.ensures).difference_number
