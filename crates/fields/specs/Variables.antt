-- The modal variables.
use Rattle.std.specs.Prelude.{false, Some, None}
use Rattle.bounds.specs.Points.{origin}
use Rattle.fields.specs.declared.number.Layers.{Layers}
use Rattle.fields.specs.declared.number.Sides.{Sides}
use Rattle.fields.specs.declared.variables.LayerVariables.{LayerVariables}
use Rattle.fields.specs.declared.variables.Modals.{Modals}
use Rattle.fields.specs.declared.variables.SideVariables.{SideVariables}

-- a layer and a datatype are stored
abbrev pub stored_layers : Layers → LayerVariables
stored_layers l = record { layer = Some l.layer; datatype = Some l.datatype }

-- a width and a height are stored
abbrev pub stored_sides : Sides → SideVariables
stored_sides s = record { width = Some s.width; height = Some s.height }

-- no layer and no datatype
abbrev pub no_layers : LayerVariables
no_layers = record { layer = None; datatype = None }

-- the variables after a reset: the six positions are 0, coordinates are absolute, and all else is undefined
abbrev pub fresh : Modals
fresh =
    record {
      relative = false;
      repetition = None;
      placement = record { at = origin; cell = None };
      text = record { at = origin; text = None; layers = no_layers };
      figure = record { at = origin; layers = no_layers };
      sides = record { width = None; height = None };
      polygon = None;
      path = record { half = None; start = None; end = None; list = None };
    }
