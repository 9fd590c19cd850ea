use Rattle.frames.proofs.Backs.{start_back, end_back}
use Rattle.frames.proofs.Starts.{start_made, start_local, start_exactly}
use Rattle.frames.proofs.Ends.{end_made, end_exactly}
use Rattle.frames.proofs.laws.laws_of_frames.Goals as goal

pub returns : goal.returns
returns c =
    record {
      start = start_made;
      start_local = start_local;
      start_exactly = start_exactly;
      start_back = start_back;
      end = end_made;
      end_exactly = end_exactly;
      end_back = end_back;
    }
