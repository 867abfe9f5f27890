pub mod CubesView
pub mod LabelView
