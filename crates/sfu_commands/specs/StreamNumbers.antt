-- The stream with the parameters that the code read.
use Rattle.stream_maker.specs.Stream.{Stream}
use Rattle.sfu_commands.specs.declared.stream_words.StreamNumbers.{StreamNumbers}

abbrev pub stream_by : StreamNumbers → Stream
stream_by numbers = record { frames = numbers.frames; start = numbers.start; loss = numbers.loss }
